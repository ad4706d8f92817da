-- The marked pairs whose own blocks stay as they are. They are above a touched block, so they are not shared.
use Rattle.std.specs.Prelude.{ℕ, ◌≡◌, ◌+◌, ◌*◌, ◌≤◌, true, not, Bool, List, ◌++◌, length, Option, None, is_some, if◌then◌else◌}
use Rattle.std.specs.List.{AllByRecursion, filter, filter_map}
use Rattle.std.specs.List.Sorted.{IsPermutation, IsStrictlySortedBy}
use Rattle.std.specs.Ordering.{nat_cmp}
use Rattle.std.specs.FinMap.{FinMap}
use Rattle.write_cache.specs.Cache.{overlaid}
use Rattle.live_index.specs.Pairs.{Pairs}
use Rattle.live_index.specs.declared.live.Live.{Live}
use Rattle.touched_blocks.specs.Marks.{Marked, by_pair, in_lives, marked_in}
use Rattle.touched_blocks.specs.declared.marks.PairPlace.{PairPlace}
use Rattle.records.specs.Part.{Located}
use Rattle.touched_blocks.specs.Touched.{written_in}
use Rattle.tree_laws.specs.LivePairs.{Walked, live_in, table_of}
use Rattle.tree_laws.specs.MergedLaw.{IsInOrder}
use Rattle.tree_laws.specs.Shared.{are_read_alike, unshared_in}
use Rattle.tree_laws.specs.SharedLaw.{HasTrees, MarksTouched}
use Rattle.tree_laws.specs.ShiftedLaw.{shifted_in}
use Rattle.tree_laws.specs.TableLaw.{Tree}
use Rattle.tree_laws.specs.Unshared.{items_in}
use Rattle.tree_change.specs.AllTrees.{AreAllParts}
use Rattle.tree_change.specs.Change.{is_before, item_before}
use Rattle.tree_change.specs.Merging.{IsSortedOf}
use Rattle.tree_change.specs.Walks.{Parts}

-- whether a pair is marked
abbrev pub is_marked : Marked → Live → Bool
is_marked marked live = marked live.tree live.address

-- whether the pair at a place is not one of some
abbrev pub is_free : Marked → PairPlace → Bool
is_free marked place = not (marked place.tree place.address)

-- the pair that a table has at a place, where it is not one of those that changed
abbrev pub risen_by : Pairs → Marked → PairPlace → Option Live
risen_by pairs changed place = if is_free changed place then pairs place.tree place.address else None

-- the same, where it is not one of those that shifted either
abbrev pub unmoved_by : Pairs → Marked → Marked → PairPlace → Option Live
unmoved_by pairs changed shifted place = if is_free shifted place then risen_by pairs changed place else None

-- the same, of lists of pairs
abbrev pub is_left : List Live → PairPlace → Bool
is_left lives = is_free (in_lives lives)

abbrev pub risen_at : Pairs → List Live → PairPlace → Option Live
risen_at pairs changed = risen_by pairs (in_lives changed)

abbrev pub unmoved_at : Pairs → List Live → List Live → PairPlace → Option Live
unmoved_at pairs changed shifted = unmoved_by pairs (in_lives changed) (in_lives shifted)

-- Parts with the pairs at these places that are not among the old pairs of the parts. Those that shifted are new pairs as they are now.
abbrev pub with_risen : Pairs → Marked → List PairPlace → Parts → Parts
with_risen pairs marked places parts = record parts {
  old_blocks = parts.old_blocks ++ filter_map (risen_at pairs parts.old_blocks) places;
  new_blocks = (parts.new_blocks ++ filter (is_marked marked) parts.shifted) ++ filter_map (unmoved_at pairs parts.old_blocks parts.shifted) places;
  shifted = filter (λ live. not (is_marked marked live)) parts.shifted;
}

-- These are the marked places, each once; parts are made of others with the marked pairs that are left; and it took a look for each of these.
pub record IsRisen (pairs : Pairs) (marked : Marked) (places : List PairPlace) (parts made : Parts) (before after : ℕ) : Type 0 where
  pub each : (tree address : ℕ) → marked tree address ≡ marked_in places tree address
  pub order : IsStrictlySortedBy by_pair places
  pub made_is : made ≡ with_risen pairs marked places parts
  pub looks : after ≤ before + length (filter (is_left parts.old_blocks) places)

-- Parts are all that two images do not share: the pairs that are not shared, of the old image and of the new one, in some order; in their order,
-- the shared pairs that are shifted and the items; and no more are counted than pairs are not shared.
pub record AreAllUnshared (old new : Walked) (pending : FinMap nat_cmp ℕ) (end : ℕ) (parts : Parts) : Type 0 where
  pub old_blocks : IsPermutation (unshared_in old new (written_in pending) end old) parts.old_blocks
  pub new_blocks : IsPermutation (unshared_in old new (written_in pending) end new) parts.new_blocks
  pub shifted : (sorted : List Live) → IsSortedOf is_before parts.shifted sorted → IsInOrder is_before (shifted_in old new (written_in pending) end) sorted
  pub old_items : (sorted : List Located) → IsSortedOf item_before parts.old_items sorted
      → IsInOrder item_before (items_in (unshared_in old new (written_in pending) end old) old.seen) sorted
  pub new_items : (sorted : List Located) → IsSortedOf item_before parts.new_items sorted
      → IsInOrder item_before (items_in (unshared_in old new (written_in pending) end new) new.seen) sorted
  pub count : parts.count ≤ length parts.old_blocks + 2 * length parts.new_blocks

-- The marks on the pairs that writes touch, and on those above them: just those blocks of each old tree are marked, where blocks are read alike in
-- both images; and only pairs of the table are marked, and only there.
pub record MarksAll (image : List ℕ) (pending : FinMap nat_cmp ℕ) (old new : Walked) (trees : List Tree) (pairs : Pairs) (marked : Marked) : Type 0 where
  pub trees_are : are_read_alike old.sup new.sup ≡ true → AllByRecursion (MarksTouched old (written_in pending) (length image) marked) trees
  pub known : (tree address : ℕ) → marked tree address ≡ true → is_some (pairs tree address) ≡ true
  pub only : (tree address : ℕ) → marked tree address ≡ true → are_read_alike old.sup new.sup ≡ true

-- All that changed, with the marked pairs that are left, is all that is not shared; and for each of these one look is made at most.
abbrev pub RisenLaw : Type 0
RisenLaw = (image : List ℕ) (pending : FinMap nat_cmp ℕ) (old new : Walked) (trees afters : List Tree) (pairs : Pairs) (marked : Marked)
    (places : List PairPlace) (parts made : Parts) (before after : ℕ)
    → HasTrees image old trees → HasTrees (overlaid pending 0 image) new afters
    → ((tree address : ℕ) → pairs tree address ≡ table_of (live_in old.seen) tree address)
    → MarksAll image pending old new trees pairs marked → IsRisen pairs marked places parts made before after
    → AreAllParts old new pending (length image) parts
    → AreAllUnshared old new pending (length image) made × (after + length parts.old_blocks ≤ before + length made.old_blocks)

-- What changes in all trees of an image, from what changes in each.
use Rattle.std.specs.Prelude.{ℕ, ◌≡◌, ◌+◌, ◌*◌, ◌⊎◌, true, List, [], ◌∷◌, ◌++◌, length, Option, Some, None, is_some, Result, Ok, Err, if◌then◌else◌}
use Rattle.std.specs.List.{AllByRecursion, list_any}
use Rattle.std.specs.List.Sorted.{IsPermutation}
use Rattle.std.specs.Ordering.{nat_cmp}
use Rattle.std.specs.FinMap.{FinMap}
use Rattle.verdict.specs.Rules.{and_then}
use Rattle.verdict.specs.declared.finding.Finding.{Finding}
use Rattle.verdict.specs.declared.place.Chunk.{Chunk}
use Rattle.write_cache.specs.Cache.{overlaid}
use Rattle.live_index.specs.Pairs.{Pairs}
use Rattle.live_index.specs.declared.live.Live.{Live}
use Rattle.node_reader.specs.declared.expect.Expect.{Expect}
use Rattle.records.specs.Contents.{chunk_tree_root, named_root, names, root_tree_root, tree_records}
use Rattle.records.specs.Part.{Located}
use Rattle.records.specs.Seen.{Seen}
use Rattle.touched_blocks.specs.Moves.{is_moved}
use Rattle.touched_blocks.specs.Touched.{written_in}
use Rattle.volume_items.specs.declared.root_at.RootAt.{RootAt}
use Rattle.tree_laws.specs.ArrayLaw.{HasArray}
use Rattle.tree_laws.specs.Keeping.{Marks}
use Rattle.tree_laws.specs.LivePairs.{Walked, live_in, table_of}
use Rattle.tree_laws.specs.MergedLaw.{IsInOrder}
use Rattle.tree_laws.specs.Shared.{are_read_alike}
use Rattle.tree_laws.specs.SharedLaw.{HasTrees, touches_old}
use Rattle.tree_laws.specs.TableLaw.{Tree, trees_in}
use Rattle.tree_laws.specs.Unshared.{items_in}
use Rattle.tree_change.specs.Change.{is_before, item_before}
use Rattle.tree_change.specs.Merging.{IsSortedOf}
use Rattle.tree_change.specs.OneTree.{KnowsNothing, KnowsTree, side_of}
use Rattle.tree_change.specs.Unchanged.{ChangesListed, changed_in, unchanged_shifted}
use Rattle.tree_change.specs.Walks.{Known, Parts, Side, gone_parts, tree_parts}

-- no parts, and parts before others
abbrev pub no_parts : Parts
no_parts = record { old_blocks = []; new_blocks = []; shifted = []; old_items = []; new_items = []; count = 0 }

abbrev pub with_parts : Parts → Parts → Parts
with_parts some more = record {
  old_blocks = some.old_blocks ++ more.old_blocks;
  new_blocks = some.new_blocks ++ more.new_blocks;
  shifted = some.shifted ++ more.shifted;
  old_items = some.old_items ++ more.old_items;
  new_items = some.new_items ++ more.new_items;
  count = some.count + more.count;
}

-- the root of the tree of an id, where one is named
abbrev pub root_named : List RootAt → ℕ → Option Expect
root_named [] id = None
root_named (root ∷ roots) id = if names id root then Some (named_root root) else root_named roots id

-- what changes in all trees that are named now, in their order, or the first finding
unfoldable pub named_parts : Pairs → Known → Side → Side → List RootAt → List RootAt → Result Parts Finding
named_parts pairs known was is olds [] = Ok no_parts
named_parts pairs known was is olds (root ∷ roots) =
    and_then (tree_parts pairs known was is (root_named olds root.key.objectid) (named_root root)) (λ parts.
    and_then (named_parts pairs known was is olds roots) (λ more.
    Ok (with_parts parts more)))

-- what changes where trees are gone: those that were named and are not now
unfoldable pub gone_all : Pairs → Known → Side → List RootAt → List RootAt → Result Parts Finding
gone_all pairs known was news [] = Ok no_parts
gone_all pairs known was news (root ∷ olds) =
    if list_any (names root.key.objectid) news then gone_all pairs known was news olds else
    and_then (gone_parts pairs known was (named_root root)) (λ parts.
    and_then (gone_all pairs known was news olds) (λ more.
    Ok (with_parts parts more)))

-- what is known of all old trees, where blocks are read alike in both images
pub record KnowsTrees (image : List ℕ) (pending : FinMap nat_cmp ℕ) (old : Walked) (trees : List Tree) (is : Side) (known : Known) : Type 0 where
  pub alike : are_read_alike old.sup is.sup ≡ true
  pub pairs_are : (tree address : ℕ) → known.pairs tree address ≡ table_of (live_in old.seen) tree address
  pub moved_is : known.moved ≡ is_moved old.chunks is.chunks old.sup.nodesize (length image)
  pub marked_is : (tree address : ℕ) → is_some (known.pairs tree address) ≡ true
      → known.marked tree address ≡ touches_old old (written_in pending) (length image) address
  pub changing : Marks
  pub changes : AllByRecursion (ChangesListed old is.chunks (written_in pending) (length image) changing known.under) trees

-- An image whose walks have no finding, by its superblock, its chunks and its root items; and pending writes over it. The table has its live
-- pairs, and this is known of its trees.
pub record IsOver (image : List ℕ) (pending : FinMap nat_cmp ℕ) (old : Walked) (olds : List RootAt) (trees : List Tree) (pairs : Pairs) (is : Side)
    (known : Known) : Type 0 where
  pub has : HasTrees image old trees
  pub trees_are : trees ≡ trees_in old.sup old.chunks old.chunks olds image
  pub pairs_are : (tree address : ℕ) → pairs tree address ≡ table_of (live_in old.seen) tree address
  pub over : is.image ≡ overlaid pending 0 image
  pub known_is : KnowsTrees image pending old trees is known ⊎ KnowsNothing old is known

-- the first finding of the trees that are named now is that of their whole walks, and the walks of those that are gone have none
abbrev pub NamedLaw : Type 0
NamedLaw = (image : List ℕ) (pending : FinMap nat_cmp ℕ) (old : Walked) (olds : List RootAt) (trees : List Tree) (pairs : Pairs) (is : Side)
    (known : Known) (news : List RootAt)
    → IsOver image pending old olds trees pairs is known
    → ((finding : Finding) → named_parts pairs known (side_of image old) is olds news ≡ Err finding
    → tree_records is.sup is.chunks news is.image ≡ Err finding)
    × ((parts : Parts) → named_parts pairs known (side_of image old) is olds news ≡ Ok parts
    → (records : List Seen) × (tree_records is.sup is.chunks news is.image ≡ Ok records))

-- the new image's side by some chunks
abbrev pub side_by : List ℕ → Walked → List Chunk → Side
side_by judged new chunks = record { sup = new.sup; chunks = chunks; image = judged }

-- All that changes from an image to the one that pending writes make of it, whose walks have no finding: in the chunk tree by the chunks of the
-- system array, in the root tree, in the trees that are named now, and in those that are gone.
pub record IsAll (image : List ℕ) (pending : FinMap nat_cmp ℕ) (old new : Walked) (olds news : List RootAt) (trees afters : List Tree)
    (array : List Chunk) (pairs : Pairs) (by_array known : Known) (chunk_parts root_parts named gone : Parts) : Type 0 where
  pub over : IsOver image pending old olds trees pairs (side_by (overlaid pending 0 image) new new.chunks) known
  pub has : HasTrees (overlaid pending 0 image) new afters
  pub afters_are : afters ≡ trees_in new.sup new.chunks new.chunks news (overlaid pending 0 image)
  pub array_is : HasArray (overlaid pending 0 image) new array
  pub array_known : KnowsTree image pending old (side_by (overlaid pending 0 image) new array) by_array (Some (chunk_tree_root old.sup))
      ⊎ KnowsNothing old (side_by (overlaid pending 0 image) new array) by_array
  pub chunk_tree : tree_parts pairs by_array (side_of image old) (side_by (overlaid pending 0 image) new array)
      (Some (chunk_tree_root old.sup)) (chunk_tree_root new.sup) ≡ Ok chunk_parts
  pub root_tree : tree_parts pairs known (side_of image old) (side_by (overlaid pending 0 image) new new.chunks)
      (Some (root_tree_root old.sup)) (root_tree_root new.sup) ≡ Ok root_parts
  pub named_trees : named_parts pairs known (side_of image old) (side_by (overlaid pending 0 image) new new.chunks)
      olds news ≡ Ok named
  pub gone_trees : gone_all pairs known (side_of image old) news olds ≡ Ok gone

-- the walks of the trees that are gone have no finding
abbrev pub GoneLaw : Type 0
GoneLaw = (image : List ℕ) (pending : FinMap nat_cmp ℕ) (old : Walked) (olds : List RootAt) (trees : List Tree) (pairs : Pairs) (is : Side)
    (known : Known) (news : List RootAt) (finding : Finding)
    → IsOver image pending old olds trees pairs is known → gone_all pairs known (side_of image old) news olds ≡ Err finding → ⊥

-- These parts are all that changes: the pairs that changed, of the old image and of the new one, in some order; in their order, the
-- other pairs that are shifted and the items of those that changed; and how many pairs changed.
pub record AreAllParts (old new : Walked) (pending : FinMap nat_cmp ℕ) (end : ℕ) (parts : Parts) : Type 0 where
  pub old_blocks : IsPermutation (changed_in old new (written_in pending) end old) parts.old_blocks
  pub new_blocks : IsPermutation (changed_in old new (written_in pending) end new) parts.new_blocks
  pub shifted : (sorted : List Live) → IsSortedOf is_before parts.shifted sorted → IsInOrder is_before (unchanged_shifted old new (written_in pending) end) sorted
  pub old_items : (sorted : List Located) → IsSortedOf item_before parts.old_items sorted
      → IsInOrder item_before (items_in (changed_in old new (written_in pending) end old) old.seen) sorted
  pub new_items : (sorted : List Located) → IsSortedOf item_before parts.new_items sorted
      → IsInOrder item_before (items_in (changed_in old new (written_in pending) end new) new.seen) sorted
  pub count : parts.count ≡ length parts.old_blocks + 2 * length parts.new_blocks

-- so it is
abbrev pub AllTreesLaw : Type 0
AllTreesLaw = (image : List ℕ) (pending : FinMap nat_cmp ℕ) (old new : Walked) (olds news : List RootAt) (trees afters : List Tree)
    (array : List Chunk) (pairs : Pairs) (by_array known : Known) (chunk_parts root_parts named gone : Parts)
    → IsAll image pending old new olds news trees afters array pairs by_array known chunk_parts root_parts named gone
    → AreAllParts old new pending (length image) (with_parts chunk_parts (with_parts root_parts (with_parts named gone)))

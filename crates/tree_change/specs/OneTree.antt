-- What changes in one tree, by the definitions: its pairs that are not shared or that are shifted, and the items of the first.
use Rattle.std.specs.Prelude.{ℕ, ◌≡◌, ◌==◌, ◌+◌, ◌*◌, ◌⊎◌, Bool, ◌&&◌, true, false, not, List, [], ◌∷◌, length, Option, Some, None, is_some, IfSome, Ok, Err}
use Rattle.std.specs.List.{AllByRecursion, filter}
use Rattle.std.specs.Ordering.{nat_cmp}
use Rattle.std.specs.FinMap.{FinMap}
use Rattle.verdict.specs.declared.finding.Finding.{Finding}
use Rattle.write_cache.specs.Cache.{overlaid}
use Rattle.live_index.specs.Pairs.{Pairs}
use Rattle.live_index.specs.declared.live.Live.{Live}
use Rattle.node_reader.specs.Stored.{stored_in}
use Rattle.node_reader.specs.declared.expect.Expect.{Expect}
use Rattle.records.specs.Seen.{Seen}
use Rattle.records.specs.Walk.{walk_in}
use Rattle.touched_blocks.specs.Moves.{is_moved}
use Rattle.touched_blocks.specs.Touched.{written_in}
use Rattle.tree_laws.specs.Keeping.{Marks}
use Rattle.tree_laws.specs.LivePairs.{Walked, live_in, table_of}
use Rattle.tree_laws.specs.MergedLaw.{IsInOrder, begins_before, chunks_seen, roots_seen, root_before}
use Rattle.tree_laws.specs.OldSide.{IsRoot}
use Rattle.tree_laws.specs.Shared.{are_read_alike}
use Rattle.tree_laws.specs.SharedLaw.{HasTrees, touches_old}
use Rattle.tree_laws.specs.ShiftedLaw.{is_shifted}
use Rattle.tree_laws.specs.TableLaw.{Tree}
use Rattle.tree_laws.specs.Unshared.{items_in}
use Rattle.tree_change.specs.Merging.{chunks_left, roots_left}
use Rattle.tree_change.specs.Unchanged.{ChangesListed, is_unchanged}
use Rattle.tree_change.specs.Walks.{Known, Parts, Side, tree_parts}

-- the image as it was, by its own superblock and chunks
abbrev pub side_of : List ℕ → Walked → Side
side_of image old = record { sup = old.sup; chunks = old.chunks; image = image }

-- the old tree of which this is expected of the root
abbrev pub old_tree : List ℕ → Walked → Expect → Tree
old_tree image old e = (stored_in image old.chunks old.sup.nodesize, e)

-- the records of a tree as it is, as those of an image that has no other tree
abbrev pub alone : Side → List Seen → Walked
alone is seen = record { sup = is.sup; chunks = is.chunks; seen = seen }

-- Where blocks are read alike in both images, this is what is known of the old tree: the table has the old image's pairs, which blocks stand
-- elsewhere is judged by the new chunks, of the table's pairs just those are marked which writes touch, and the children are listed that writes
-- touch or that moved, or that are above one of these.
pub record KnowsTree (image : List ℕ) (pending : FinMap nat_cmp ℕ) (old : Walked) (is : Side) (known : Known) (before : Option Expect) : Type 0 where
  pub alike : are_read_alike old.sup is.sup ≡ true
  pub pairs_are : (tree address : ℕ) → known.pairs tree address ≡ table_of (live_in old.seen) tree address
  pub moved_is : known.moved ≡ is_moved old.chunks is.chunks old.sup.nodesize (length image)
  pub marked_is : (tree address : ℕ) → is_some (known.pairs tree address) ≡ true
      → known.marked tree address ≡ touches_old old (written_in pending) (length image) address
  pub changing : Marks
  pub changes : IfSome before (λ e. ChangesListed old is.chunks (written_in pending) (length image) changing known.under (old_tree image old e))

-- where they are not, nothing is known
pub record KnowsNothing (old : Walked) (is : Side) (known : Known) : Type 0 where
  pub other : are_read_alike old.sup is.sup ≡ false
  pub none : (tree address : ℕ) → known.pairs tree address ≡ None

-- a tree is one of several
abbrev pub IsAmong : Tree → List Tree → Type 0
IsAmong tree [] = ⊥
IsAmong tree (one ∷ more) = (tree ≡ one) ⊎ IsAmong tree more

-- of the old trees this is the one of the new one's id, or there is none
abbrev pub IsOldOf : List ℕ → Walked → List Tree → Expect → Option Expect → Type 0
IsOldOf image old trees now None = AllByRecursion (λ (tree : Tree). (tree.1.tree == now.tree) ≡ false) trees
IsOldOf image old trees now (Some e) = (e.tree ≡ now.tree) × IsAmong (old_tree image old e) trees

-- A tree of an image with pending writes over another image, whose walks have no finding: its root, the old tree of its id, and what is known
-- of that; the table has the old image's live pairs.
pub record IsTree (image : List ℕ) (pending : FinMap nat_cmp ℕ) (old : Walked) (trees : List Tree) (pairs : Pairs) (is : Side) (known : Known)
    (before : Option Expect) (now : Expect) : Type 0 where
  pub has : HasTrees image old trees
  pub pairs_are : (tree address : ℕ) → pairs tree address ≡ table_of (live_in old.seen) tree address
  pub over : is.image ≡ overlaid pending 0 image
  pub root : IsRoot now
  pub was : IsOldOf image old trees now before
  pub known_is : KnowsTree image pending old is known before ⊎ KnowsNothing old is known

-- the records of the old tree, none where it was not
abbrev pub HasRecords : List ℕ → Walked → Option Expect → List Seen → Type 0
HasRecords image old None olds = olds ≡ []
HasRecords image old (Some e) olds = walk_in old.sup old.chunks e image ≡ Ok olds

-- whether a pair of the tree is unchanged
abbrev pub unchanged : List ℕ → FinMap nat_cmp ℕ → Walked → Side → List Seen → Live → Bool
unchanged image pending old is news live = is_unchanged old (alone is news) (written_in pending) (length image) live

-- What changes in the tree, of which these are the old and the new records: the pairs that changed, of the old tree and of the new one;
-- the other ones that are shifted; the items of the first; and how many blocks changed. The chunks of a chunk tree are merged of what
-- was and of what changes, and so are the root items of a root tree.
pub record ChangesTree (image : List ℕ) (pending : FinMap nat_cmp ℕ) (old : Walked) (is : Side) (now : Expect) (olds news : List Seen) (parts : Parts) : Type 0 where
  pub old_blocks : parts.old_blocks ≡ filter (λ live. not (unchanged image pending old is news live)) (live_in olds)
  pub new_blocks : parts.new_blocks ≡ filter (λ live. not (unchanged image pending old is news live)) (live_in news)
  pub shifted : parts.shifted ≡ filter (λ live. unchanged image pending old is news live && is_shifted (live_in olds) live) (live_in news)
  pub old_items : parts.old_items ≡ items_in parts.old_blocks olds
  pub new_items : parts.new_items ≡ items_in parts.new_blocks news
  pub count : parts.count ≡ length parts.old_blocks + 2 * length parts.new_blocks
  pub chunks : now.tree ≡ 3 → IsInOrder begins_before (chunks_left (chunks_seen olds) parts.old_items parts.new_items) (chunks_seen news)
  pub roots : now.tree ≡ 1
      → IsInOrder root_before (roots_left (roots_seen olds) parts.old_items parts.new_items) (roots_seen news)

-- A tree's parts, as the two walks give them, are what changes in it; and their first finding is that of the whole walk.
pub record GivesTree (image : List ℕ) (pending : FinMap nat_cmp ℕ) (old : Walked) (pairs : Pairs) (is : Side) (known : Known) (before : Option Expect)
    (now : Expect) : Type 0 where
  pub found : (finding : Finding) → tree_parts pairs known (side_of image old) is before now ≡ Err finding
      → walk_in is.sup is.chunks now is.image ≡ Err finding
  pub parts : (parts : Parts) → tree_parts pairs known (side_of image old) is before now ≡ Ok parts
      → (olds : List Seen) × (news : List Seen) × HasRecords image old before olds × (walk_in is.sup is.chunks now is.image ≡ Ok news)
      × ChangesTree image pending old is now olds news parts

-- so it is with each tree
abbrev pub OneTreeLaw : Type 0
OneTreeLaw = (image : List ℕ) (pending : FinMap nat_cmp ℕ) (old : Walked) (trees : List Tree) (pairs : Pairs) (is : Side) (known : Known)
    (before : Option Expect) (now : Expect)
    → IsTree image pending old trees pairs is known before now → GivesTree image pending old pairs is known before now

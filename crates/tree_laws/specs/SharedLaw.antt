-- The law that a block of a tree is kept just where it is shared.
use Rattle.std.specs.Prelude.{ℕ, ◌≡◌, Bool, true, not, List, length, None, is_some, Ok}
use Rattle.std.specs.List.{AllByRecursion}
use Rattle.std.specs.Ordering.{nat_cmp}
use Rattle.std.specs.FinMap.{FinMap}
use Rattle.verdict.specs.declared.place.Chunk.{Chunk}
use Rattle.write_cache.specs.Cache.{overlaid}
use Rattle.super_reader.specs.Superblock.{array_place}
use Rattle.super_reader.specs.declared.Super.{Super}
use Rattle.volume_items.specs.SystemArray.{array_chunks}
use Rattle.live_index.specs.Pairs.{Pairs}
use Rattle.node_reader.specs.Stored.{Stored, stored_in}
use Rattle.node_reader.specs.declared.expect.Expect.{Expect}
use Rattle.records.specs.Contents.{chunk_tree_root, root_items_in}
use Rattle.records.specs.Walk.{each, walk_of}
use Rattle.records.specs.WalkLaw.{visited}
use Rattle.touched_blocks.specs.Moves.{is_moved}
use Rattle.touched_blocks.specs.Touched.{Written, stays_in_place, touches_block, written_in}
use Rattle.tree_laws.specs.Keeping.{AreMarked, AreUntouched, Marks, Stands, Under, kept_of, live_at}
use Rattle.tree_laws.specs.LivePairs.{Walked, live_in, table_of, walked}
use Rattle.tree_laws.specs.Shared.{are_read_alike, is_shared_by}
use Rattle.tree_laws.specs.TableLaw.{AreApart, Tree, trees_in}
use Rattle.volume_items.specs.declared.root_at.RootAt.{RootAt}

-- whether a write touches the block at an address, where the old chunks have it
abbrev pub touches_old : Walked → Written → ℕ → ℕ → Bool
touches_old old written end = touches_block written old.chunks old.sup.nodesize end

-- whether that block stands by the new chunks where it stood
abbrev pub stays_between : Walked → Walked → ℕ → ℕ → Bool
stays_between old new end = stays_in_place old.chunks new.chunks old.sup.nodesize end

-- whether it stands elsewhere by them
abbrev pub moves_between : Walked → Walked → ℕ → ℕ → Bool
moves_between old new end = is_moved old.chunks new.chunks old.sup.nodesize end

-- of the blocks of a new tree just those are kept whose pair is shared, by tests of which blocks stay and which are touched
abbrev pub KeepsSharedBy : (ℕ → Bool) → (ℕ → Bool) → Walked → Walked → Pairs → Marks → Under → Stored → Expect → Type 0
KeepsSharedBy stays touched old new pairs marked under stored root =
    AllByRecursion (λ v. is_some (kept_of pairs marked (λ a. not (stays a)) under v) ≡ is_shared_by stays touched old new (live_at new.sup stored v))
    (visited new.sup stored root)

-- the same, by what writes touch
abbrev pub KeepsShared : Walked → Walked → Written → ℕ → Pairs → Marks → Under → Stored → Expect → Type 0
KeepsShared old new written end = KeepsSharedBy (stays_between old new end) (touches_old old written end) old new

-- just those blocks of an old tree are marked which writes touch, or which are above a touched one
abbrev pub MarksTouched : Walked → Written → ℕ → Marks → Tree → Type 0
MarksTouched old written end marked tree = AreMarked marked (touches_old old written end) old.sup tree.0 tree.1

-- just those blocks of an old tree are marked which are touched, or which are above a touched one; and what is stored now is what was stored
-- where a block is not touched and stays
pub record IsBefore (stays touched : ℕ → Bool) (old : Walked) (marked : Marks) (now : Stored) (tree : Tree) : Type 0 where
  pub marks : AreMarked marked touched old.sup tree.0 tree.1
  pub alike : AreUntouched touched (λ a. not (stays a)) tree.0 now

-- Of a new tree just the shared blocks are kept, whatever tests say which blocks stay and which are touched. The old trees have different ids,
-- and the old tree of the new one's id, if there is one, is marked and stored now where it is untouched. The table has the old pairs of that
-- id, and the new table stands for the new tree.
abbrev pub KeptTreeLaw : Type 0
KeptTreeLaw = (stays touched : ℕ → Bool) (old new : Walked) (trees : List Tree) (pairs : Pairs) (marked : Marks) (under : Under)
    (stored : Stored) (root : Expect)
    → AreApart trees → each (λ tree. walk_of old.sup tree.0 tree.1) trees ≡ Ok old.seen
    → Stands (table_of (live_in new.seen)) new.sup stored root → root.high ≡ None → are_read_alike old.sup new.sup ≡ true
    → ((address : ℕ) → pairs root.tree address ≡ table_of (live_in old.seen) root.tree address)
    → AllByRecursion (λ tree. tree.1.tree ≡ root.tree → IsBefore stays touched old marked stored tree) trees
    → KeepsSharedBy stays touched old new pairs marked under stored root

-- a walk comes to the same blocks by what is stored and by what else is, and gives the same
pub record WalksAlike (sup : Super) (stored other : Stored) (root : Expect) : Type 0 where
  pub walk : walk_of sup other root ≡ walk_of sup stored root
  pub blocks : visited sup other root ≡ visited sup stored root

-- the chunk tree is the same by the chunks of the system array and by all chunks
abbrev pub ChunkTreeLaw : Type 0
ChunkTreeLaw = (image : List ℕ) (whole : Walked) (array : List Chunk)
    → walked image ≡ Ok whole → array_chunks (array_place whole.sup) whole.sup.array whole.sup.array_size ≡ Ok array
    → WalksAlike whole.sup (stored_in image array whole.sup.nodesize) (stored_in image whole.chunks whole.sup.nodesize) (chunk_tree_root whole.sup)

-- the walks of an image have no finding, and these are its trees, all read by its chunks
pub record HasTrees (image : List ℕ) (whole : Walked) (trees : List Tree) : Type 0 where
  pub walks : walked image ≡ Ok whole
  pub roots : List RootAt
  pub items : root_items_in whole.sup whole.chunks image ≡ Ok roots
  pub trees_are : trees ≡ trees_in whole.sup whole.chunks whole.chunks roots image

-- the trees of an image have different ids, and their walks give its records
abbrev pub TreesLaw : Type 0
TreesLaw = (image : List ℕ) (whole : Walked) (trees : List Tree)
    → HasTrees image whole trees → AreApart trees × (each (λ tree. walk_of whole.sup tree.0 tree.1) trees ≡ Ok whole.seen)

-- Of each tree of an image with pending writes over it just the shared blocks are kept, where the old image's tree of its id, if there is
-- one, is marked, and the table has the old pairs.
abbrev pub KeptLaw : Type 0
KeptLaw = (image : List ℕ) (pending : FinMap nat_cmp ℕ) (old new : Walked) (before after : List Tree) (pairs : Pairs) (marked : Marks)
    (under : Under)
    → HasTrees image old before → HasTrees (overlaid pending 0 image) new after → are_read_alike old.sup new.sup ≡ true
    → ((tree address : ℕ) → pairs tree address ≡ table_of (live_in old.seen) tree address)
    → AllByRecursion (λ now.
    AllByRecursion (λ tree. tree.1.tree ≡ now.1.tree → MarksTouched old (written_in pending) (length image) marked tree) before
    → KeepsShared old new (written_in pending) (length image) pairs marked under now.0 now.1) after

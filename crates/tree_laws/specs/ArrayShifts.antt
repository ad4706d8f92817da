-- What the walks of the old and the new chunk tree give, where the blocks are judged by the chunks of the new system array alone.
use Rattle.std.specs.Prelude.{ℕ, ◌≡◌, true, Ok, List, ◌∷◌, ◌++◌, length}
use Rattle.std.specs.List.{AllByRecursion, flat_map}
use Rattle.std.specs.Ordering.{nat_cmp}
use Rattle.std.specs.FinMap.{FinMap}
use Rattle.verdict.specs.declared.place.Chunk.{Chunk}
use Rattle.write_cache.specs.Cache.{overlaid}
use Rattle.super_reader.specs.declared.Super.{Super}
use Rattle.live_index.specs.Pairs.{Pairs}
use Rattle.node_reader.specs.Stored.{stored_in}
use Rattle.touched_blocks.specs.Touched.{written_in}
use Rattle.tree_laws.specs.ArrayLaw.{AreBoth, chunk_tree_by, moves_by}
use Rattle.tree_laws.specs.Keeping.{AreListed, AreMarked, AreUntouched, Marks, Stands, Under, anew_of, kept_of}
use Rattle.tree_laws.specs.LivePairs.{Walked, live_in, table_of, walked}
use Rattle.tree_laws.specs.MergedLaw.{AreShared}
use Rattle.tree_laws.specs.MovedLaw.{kept_in, shifted_by}
use Rattle.tree_laws.specs.OldSide.{TellsShared, kept_at, kept_where}
use Rattle.tree_laws.specs.Shared.{are_read_alike, is_shared}
use Rattle.tree_laws.specs.SharedLaw.{HasTrees, MarksTouched, moves_between, touches_old}
use Rattle.tree_laws.specs.ShiftedLaw.{MovesListed, shifted_in, shifted_met}
use Rattle.tree_laws.specs.SkipLaw.{IsSound}
use Rattle.tree_laws.specs.Skips.{Kept, nothing, skip_of, unkept}
use Rattle.tree_laws.specs.Stops.{stops_of}
use Rattle.tree_laws.specs.TableLaw.{Tree}

-- just those blocks of a tree are marked which moved by the array, or which are above one that did; and the marked children are listed
pub record MovesListedBy (old : Walked) (array : List Chunk) (end : ℕ) (moving : Marks) (under : Under) (tree : Tree) : Type 0 where
  pub marks : AreMarked moving (moves_by old array end) old.sup tree.0 tree.1
  pub lists : AreListed under moving old.sup tree.0 tree.1

-- What is known of the old chunk tree: the table has its pairs, just those of its blocks are marked which writes touch or which are above a
-- touched one, and the children are listed that moved by the array, or are above one that did.
pub record IsKnownByArray (image : List ℕ) (pending : FinMap nat_cmp ℕ) (old : Walked) (array : List Chunk) (pairs : Pairs) (marked moving : Marks)
    (under : Under) : Type 0 where
  pub pairs_are : (address : ℕ) → pairs 3 address ≡ table_of (live_in old.seen) 3 address
  pub marks : MarksTouched old (written_in pending) (length image) marked (chunk_tree_by old.chunks old.sup image)
  pub moves : MovesListedBy old array (length image) moving under (chunk_tree_by old.chunks old.sup image)

-- what is kept of the new chunk tree
abbrev pub kept_by : Walked → List Chunk → ℕ → Pairs → Marks → Under → Kept
kept_by old array end pairs marked under = kept_of pairs marked (moves_by old array end) under

-- The premises of the laws of one tree, of the old chunk tree by the new superblock: the table stands for it, it is marked, its moved children
-- are listed, the same is stored where it is untouched, and what is kept of the new chunk tree is what is shared.
pub record IsOneTree (image : List ℕ) (pending : FinMap nat_cmp ℕ) (old new : Walked) (array : List Chunk) (pairs : Pairs) (marked moving : Marks)
    (under : Under) (was is : Tree) : Type 0 where
  pub stands : Stands pairs new.sup was.0 was.1
  pub marks : AreMarked marked (touches_old old (written_in pending) (length image)) new.sup was.0 was.1
  pub moves : AreMarked moving (moves_by old array (length image)) new.sup was.0 was.1
  pub lists : AreListed under moving new.sup was.0 was.1
  pub untouched : AreUntouched (touches_old old (written_in pending) (length image)) (moves_by old array (length image)) was.0 is.0
  pub tells : TellsShared (is_shared old new (written_in pending) (length image)) (kept_by old array (length image) pairs marked under)
      new.sup is.0 is.1

-- What follows: which blocks the two chunk trees share; the walk of the old one, which keeps the blocks at the stops of the walk of the new
-- one, gives the own records of just the blocks that are not shared; and the kept blocks that the walk of the new one meets show all that shifted.
pub record GivesOneTree (old new : Walked) (pending : FinMap nat_cmp ℕ) (end : ℕ) (array : List Chunk) (pairs : Pairs) (marked : Marks)
    (under : Under) (was is : Tree) : Type 0 where
  pub shared : AreShared (is_shared old new (written_in pending) end) new.sup was.0 is.0 was.1 is.1
  pub old_side : skip_of
      (kept_at pairs (stops_of (kept_by old array end pairs marked under) (anew_of under) new.sup is.0 is.1) under) nothing (anew_of under)
      new.sup was.0 was.1
      ≡ unkept (kept_where (is_shared old new (written_in pending) end) new.sup was.0) nothing new.sup was.0 was.1
  pub shifted : shifted_by pairs new.sup is.0 (kept_in (kept_by old array end pairs marked under) new.sup is.0 is.1)
      ≡ shifted_met (kept_by old array end pairs marked under) (anew_of under) pairs new is

-- so it is with the chunk trees of an image and of the image that pending writes make of it
abbrev pub ArrayWalksLaw : Type 0
ArrayWalksLaw = (image : List ℕ) (pending : FinMap nat_cmp ℕ) (old new : Walked) (array : List Chunk) (pairs : Pairs) (marked moving : Marks)
    (under : Under)
    → AreBoth image pending old new array → IsKnownByArray image pending old array pairs marked moving under
    → IsOneTree image pending old new array pairs marked moving under (chunk_tree_by old.chunks old.sup image)
    (chunk_tree_by array new.sup (overlaid pending 0 image))
    × GivesOneTree old new pending (length image) array pairs marked under (chunk_tree_by old.chunks old.sup image)
    (chunk_tree_by array new.sup (overlaid pending 0 image))

-- The shifted pairs of an image with pending writes over it are those that the walk of the chunk tree meets, by the array, and those that the
-- walks of the other trees meet, by all chunks.
abbrev pub ArrayShiftedLaw : Type 0
ArrayShiftedLaw = (image : List ℕ) (pending : FinMap nat_cmp ℕ) (old new : Walked) (array : List Chunk) (before rest : List Tree) (pairs : Pairs)
    (marked moving array_moving : Marks) (under array_under : Under)
    → HasTrees image old before → HasTrees (overlaid pending 0 image) new (chunk_tree_by new.chunks new.sup (overlaid pending 0 image) ∷ rest)
    → AreBoth image pending old new array
    → ((tree address : ℕ) → pairs tree address ≡ table_of (live_in old.seen) tree address)
    → AllByRecursion (MarksTouched old (written_in pending) (length image) marked) before
    → AllByRecursion (MovesListed old new (length image) moving under) before
    → MovesListedBy old array (length image) array_moving array_under (chunk_tree_by old.chunks old.sup image)
    → shifted_in old new (written_in pending) (length image)
    ≡ shifted_met (kept_by old array (length image) pairs marked array_under) (anew_of array_under) pairs new
    (chunk_tree_by array new.sup (overlaid pending 0 image))
    ++ flat_map (shifted_met (kept_of pairs marked (moves_between old new (length image)) under) (anew_of under) pairs new) rest

-- Blocks of the chunk tree are kept soundly by any chunks of a new system array, whatever is stored now: what is known is of the old image alone.
abbrev pub ArraySoundLaw : Type 0
ArraySoundLaw = (image : List ℕ) (pending : FinMap nat_cmp ℕ) (old : Walked) (fresh : Super) (array : List Chunk) (pairs : Pairs)
    (marked moving : Marks) (under : Under)
    → walked image ≡ Ok old → are_read_alike old.sup fresh ≡ true → IsKnownByArray image pending old array pairs marked moving under
    → IsSound 3 (kept_by old array (length image) pairs marked under) nothing (anew_of under) fresh
    (stored_in (overlaid pending 0 image) array fresh.nodesize)

-- What is known of an image whose walks have no finding, by the table of its live pairs: how its chunks and its pairs stand, and which pairs
-- it does not share with another image. With it the bounds on how pairs are marked speak of what changes.
use Rattle.std.specs.Prelude.{ℕ, ◌≡◌, ◌<◌, true, List, length, is_some, Ok}
use Rattle.std.specs.Ordering.{nat_cmp}
use Rattle.std.specs.FinMap.{FinMap}
use Rattle.verdict.specs.declared.place.Chunk.{Chunk}
use Rattle.write_cache.specs.Cache.{overlaid}
use Rattle.live_index.specs.Pairs.{AreNarrow, Pairs}
use Rattle.live_index.specs.declared.live.Live.{Live}
use Rattle.touched_blocks.specs.Looks.{ArePlaced, NoneMeet, copies_of}
use Rattle.touched_blocks.specs.Marking.{AreLow, AreMarked, HaveEach}
use Rattle.touched_blocks.specs.Marks.{AreAmong, Marked, in_lives, no_mark}
use Rattle.touched_blocks.specs.Moves.{AreApart, is_moved}
use Rattle.touched_blocks.specs.Spots.{at_address}
use Rattle.touched_blocks.specs.Touched.{touches_block, written_in}
use Rattle.tree_laws.specs.ArrayLaw.{HasArray}
use Rattle.tree_laws.specs.LivePairs.{Walked, live_in, table_of, walked}
use Rattle.tree_laws.specs.Shared.{unshared_in}

-- the walks of an image have no finding, and a table has its live pairs
pub record IsWalked (image : List ℕ) (old : Walked) (pairs : Pairs) : Type 0 where
  pub walks : walked image ≡ Ok old
  pub pairs_are : (tree address : ℕ) → pairs tree address ≡ table_of (live_in old.seen) tree address

-- A block has bytes. No two chunks have a logical address in common, and no two copies of chunks a byte of the device. Each pair is on a
-- level below 8, and has a place.
pub record IsWellFormed (image : List ℕ) (old : Walked) (pairs : Pairs) : Type 0 where
  pub sized : 0 < old.sup.nodesize
  pub apart : AreApart old.chunks
  pub unmet : NoneMeet (copies_of old.chunks)
  pub low : AreLow pairs
  pub placed : ArePlaced pairs old.chunks old.sup.nodesize (length image)

-- the pairs of an image that it does not share with another, by the writes between them
abbrev pub unshared_old : List ℕ → FinMap nat_cmp ℕ → Walked → Walked → List Live
unshared_old image pending old new = unshared_in old new (written_in pending) (length image) old

-- those pairs of a table are marked of whose blocks pending writes touch a byte of a copy, all above them, and no other
abbrev pub AreMarkedTouched : List ℕ → FinMap nat_cmp ℕ → Walked → Pairs → Marked → Type 0
AreMarkedTouched image pending old pairs marked =
    AreMarked pairs (at_address (touches_block (written_in pending) old.chunks old.sup.nodesize (length image))) no_mark marked

-- no pair of the chunk tree is shared of which the block moved from the chunks of an old system array to those of a new one
abbrev pub MovesByArray : List ℕ → FinMap nat_cmp ℕ → Walked → Walked → Pairs → List Chunk → List Chunk → Type 0
MovesByArray image pending old new pairs old_array array =
    (address : ℕ) → is_moved old_array array old.sup.nodesize (length image) address ≡ true → is_some (pairs 3 address) ≡ true
    → in_lives (unshared_old image pending old new) 3 address ≡ true

-- No pair is shared that pending writes touch, or that is above one. None is of which the block moved by the new chunks. None of the chunk
-- tree is of which the block moved from the image's system array to that of the image which the writes make.
pub record AreUnshared (image : List ℕ) (pending : FinMap nat_cmp ℕ) (old new : Walked) (pairs : Pairs) : Type 0 where
  pub marked : AreNarrow pairs → (marked : Marked) → AreMarkedTouched image pending old pairs marked
      → AreAmong marked (unshared_old image pending old new)
  pub moved : HaveEach pairs (is_moved old.chunks new.chunks old.sup.nodesize (length image)) (unshared_old image pending old new)
  pub by_array : (old_array array : List Chunk) → HasArray image old old_array → HasArray (overlaid pending 0 image) new array
      → MovesByArray image pending old new pairs old_array array

-- so it is of each image whose walks have no finding, beside any other image
pub record AcceptedLaw : Type 0 where
  pub well_formed : (image : List ℕ) (old : Walked) (pairs : Pairs) → IsWalked image old pairs → IsWellFormed image old pairs
  pub unshared : (image : List ℕ) (pending : FinMap nat_cmp ℕ) (old new : Walked) (pairs : Pairs)
      → IsWalked image old pairs → AreUnshared image pending old new pairs

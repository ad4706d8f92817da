-- The chunk tree of an image is read by the chunks of the system array, before the list of all chunks is known. What is judged of its blocks
-- by these chunks alone is the same as by all chunks.
use Rattle.std.specs.Prelude.{ℕ, ◌≡◌, Bool, true, List, length, Ok}
use Rattle.std.specs.List.{AllByRecursion}
use Rattle.std.specs.Ordering.{nat_cmp}
use Rattle.std.specs.FinMap.{FinMap}
use Rattle.verdict.specs.Chunks.{place}
use Rattle.verdict.specs.declared.place.Chunk.{Chunk}
use Rattle.write_cache.specs.Cache.{overlaid}
use Rattle.super_reader.specs.Superblock.{array_place}
use Rattle.super_reader.specs.declared.Super.{Super}
use Rattle.volume_items.specs.SystemArray.{array_chunks}
use Rattle.live_index.specs.Pairs.{Pairs}
use Rattle.node_reader.specs.Stored.{stored_in}
use Rattle.node_reader.specs.declared.expect.Expect.{Expect}
use Rattle.records.specs.Contents.{chunk_tree_root}
use Rattle.records.specs.WalkLaw.{visited}
use Rattle.touched_blocks.specs.Moves.{is_moved}
use Rattle.touched_blocks.specs.Touched.{Written, touches_block, written_in}
use Rattle.tree_laws.specs.Keeping.{AreUntouched, Marks, Under, kept_of, live_at}
use Rattle.tree_laws.specs.LivePairs.{Walked, live_in, table_of, walked}
use Rattle.tree_laws.specs.OldSide.{TellsShared}
use Rattle.tree_laws.specs.Shared.{are_read_alike, is_shared}
use Rattle.tree_laws.specs.SharedLaw.{MarksTouched, moves_between, touches_old}
use Rattle.tree_laws.specs.TableLaw.{Tree}

-- the walks of an image have no finding, and these are the chunks of its system array
pub record HasArray (image : List ℕ) (whole : Walked) (array : List Chunk) : Type 0 where
  pub walks : walked image ≡ Ok whole
  pub array_is : array_chunks (array_place whole.sup) whole.sup.array whole.sup.array_size ≡ Ok array

-- the chunk tree of an image, read by some chunks
abbrev pub chunk_tree_by : List Chunk → Super → List ℕ → Tree
chunk_tree_by chunks sup image = (stored_in image chunks sup.nodesize, chunk_tree_root sup)

-- this holds of each block that the walk of the chunk tree comes to by the array's chunks
abbrev pub EachByArray : (Expect → Type 0) → List ℕ → Walked → List Chunk → Type 0
EachByArray P image whole array = AllByRecursion P (visited whole.sup (stored_in image array whole.sup.nodesize) (chunk_tree_root whole.sup))

-- By the array's chunks a block stands where it does by all chunks: so it moved from another list of chunks, writes touch it, and its pair is
-- so, as by all.
pub record IsAsByAll (image : List ℕ) (whole : Walked) (array : List Chunk) (v : Expect) : Type 0 where
  pub stands : place array v.address whole.sup.nodesize (length image) ≡ place whole.chunks v.address whole.sup.nodesize (length image)
  pub moved : (old : List Chunk)
      → is_moved old array whole.sup.nodesize (length image) v.address ≡ is_moved old whole.chunks whole.sup.nodesize (length image) v.address
  pub left : (new : List Chunk)
      → is_moved array new whole.sup.nodesize (length image) v.address ≡ is_moved whole.chunks new whole.sup.nodesize (length image) v.address
  pub touched : (written : Written)
      → touches_block written array whole.sup.nodesize (length image) v.address ≡ touches_old whole written (length image) v.address
  pub live : live_at whole.sup (stored_in image array whole.sup.nodesize) v ≡ live_at whole.sup (stored_in image whole.chunks whole.sup.nodesize) v

-- so it is with each block of the chunk tree
abbrev pub ArrayLaw : Type 0
ArrayLaw = (image : List ℕ) (whole : Walked) (array : List Chunk) → HasArray image whole array
    → EachByArray (IsAsByAll image whole array) image whole array

-- whether the block at an address moved from an image, by the chunks of a new system array
abbrev pub moves_by : Walked → List Chunk → ℕ → ℕ → Bool
moves_by old array end = is_moved old.chunks array old.sup.nodesize end

-- An image and the image that pending writes make of it: their walks have no finding, blocks are read alike in both, and these are the chunks
-- of the new one's system array.
pub record AreBoth (image : List ℕ) (pending : FinMap nat_cmp ℕ) (old new : Walked) (array : List Chunk) : Type 0 where
  pub was : walked image ≡ Ok old
  pub is : HasArray (overlaid pending 0 image) new array
  pub alike : are_read_alike old.sup new.sup ≡ true

-- The blocks of the new chunk tree moved by the array where they moved by all chunks, the same is stored where no write touches a block and it
-- did not move by the array, and what is kept of the new chunk tree is what is shared.
pub record IsKeptByArray (image : List ℕ) (pending : FinMap nat_cmp ℕ) (old new : Walked) (array : List Chunk) (pairs : Pairs) (marked : Marks)
    (under : Under) : Type 0 where
  pub moves : EachByArray (λ v. moves_by old array (length image) v.address ≡ moves_between old new (length image) v.address)
      (overlaid pending 0 image) new array
  pub untouched : AreUntouched (touches_old old (written_in pending) (length image)) (moves_by old array (length image))
      (stored_in image old.chunks old.sup.nodesize) (stored_in (overlaid pending 0 image) array new.sup.nodesize)
  pub tells : TellsShared (is_shared old new (written_in pending) (length image)) (kept_of pairs marked (moves_by old array (length image)) under)
      new.sup (stored_in (overlaid pending 0 image) array new.sup.nodesize) (chunk_tree_root new.sup)

-- so it is where the table has the old chunk tree's pairs, and just those of its blocks are marked which writes touch, or which are above a
-- touched one
abbrev pub ArrayKeptLaw : Type 0
ArrayKeptLaw = (image : List ℕ) (pending : FinMap nat_cmp ℕ) (old new : Walked) (array : List Chunk) (pairs : Pairs) (marked : Marks) (under : Under)
    → AreBoth image pending old new array
    → ((address : ℕ) → pairs 3 address ≡ table_of (live_in old.seen) 3 address)
    → MarksTouched old (written_in pending) (length image) marked (chunk_tree_by old.chunks old.sup image)
    → IsKeptByArray image pending old new array pairs marked under

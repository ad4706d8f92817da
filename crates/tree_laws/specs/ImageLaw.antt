-- What two images have alike: the reading of blocks, and what is stored where no write touches a block and it did not move.
use Rattle.std.specs.Prelude.{ℕ, ◌≡◌, not, true, List, length}
use Rattle.std.specs.Ordering.{nat_cmp}
use Rattle.std.specs.FinMap.{FinMap}
use Rattle.verdict.specs.declared.place.Chunk.{Chunk}
use Rattle.write_cache.specs.Cache.{overlaid}
use Rattle.super_reader.specs.declared.Super.{Super}
use Rattle.node_reader.specs.Stored.{Stored, stored_in}
use Rattle.node_reader.specs.declared.expect.Expect.{Expect}
use Rattle.records.specs.Walk.{walk_of}
use Rattle.tree_laws.specs.Keeping.{AreUntouched}
use Rattle.tree_laws.specs.Shared.{are_read_alike}
use Rattle.touched_blocks.specs.Touched.{stays_in_place, touches_block, written_in}

-- superblocks by which blocks are read alike give the same walks
abbrev pub ReadAlikeLaw : Type 0
ReadAlikeLaw = (a b : Super) (stored : Stored) (e : Expect) → are_read_alike a b ≡ true → walk_of a stored e ≡ walk_of b stored e

-- in an image with pending writes over it the same is stored as in the image itself, at each address where no write touches a byte of a
-- copy by the old list of chunks, and of which the new list gives the same place
abbrev pub StoredAlikeLaw : Type 0
StoredAlikeLaw = (image : List ℕ) (pending : FinMap nat_cmp ℕ) (old new : List Chunk) (nodesize : ℕ)
    → AreUntouched (touches_block (written_in pending) old nodesize (length image)) (λ address. not (stays_in_place old new nodesize (length image) address))
    (stored_in image old nodesize) (stored_in (overlaid pending 0 image) new nodesize)

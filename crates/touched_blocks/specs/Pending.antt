-- The blocks that pending writes touch, chunk by chunk. It serves to state what private functions keep.
use Rattle.std.specs.Prelude.{ℕ, ◌+◌, ◌-◌, Bool, false, ◌&&◌, ◌||◌, Option, Some, None}
use Rattle.verdict.specs.Chunks.{holds_range}
use Rattle.verdict.specs.declared.place.Chunk.{Chunk}
use Rattle.touched_blocks.specs.declared.pending.Pending.{Pending}
use Rattle.touched_blocks.specs.Touched.{any_written, touches_block, written_in}

-- whether one of the writes touches a byte of a copy of the block at an address
unfoldable pub touches : Pending → ℕ → Bool
touches pending address = touches_block (written_in pending.cache.now) pending.map.now pending.nodesize pending.end address

-- whether a chunk holds the block at an address, and one of the writes touches it where one of the chunk's copies begins at an offset
abbrev pub touches_in_copy : Pending → Chunk → ℕ → ℕ → Bool
touches_in_copy pending chunk copy address =
    holds_range chunk address pending.nodesize && any_written (written_in pending.cache.now) (copy + (address - chunk.start)) pending.nodesize

-- the same of the second copy, where there is one
abbrev pub touches_in_second : Pending → Chunk → Option ℕ → ℕ → Bool
touches_in_second pending chunk None address = false
touches_in_second pending chunk (Some second) address = touches_in_copy pending chunk second address

-- the same of one of both
abbrev pub touches_in_chunk : Pending → Chunk → ℕ → Bool
touches_in_chunk pending chunk address = touches_in_copy pending chunk chunk.first address || touches_in_second pending chunk chunk.second address

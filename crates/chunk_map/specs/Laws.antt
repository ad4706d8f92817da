-- Laws on the order of chunks by start, and on the pairs of the system chunk array.
use Rattle.std.specs.Prelude.{◌≡◌, ℕ, ◌+◌, ◌≤◌, Bool, ◌==◌, List}
use Rattle.std.specs.List.{filter}
use Rattle.std.specs.List.Sorted.{IsPermutation, IsNonDecreasingBy}
use Rattle.verdict.specs.declared.place.At.{At}
use Rattle.verdict.specs.declared.place.Chunk.{Chunk}
use Rattle.volume_items.specs.ChunkOrder.{by_start}
use Rattle.volume_items.specs.SystemArray.{pairs_from}

-- whether a chunk has this start
abbrev pub has_start : ℕ → Chunk → Bool
has_start start chunk = chunk.start == start

-- some chunks by start: the same chunks, which ascend by start, those of one start in their old order
pub record IsByStart (chunks sorted : List Chunk) : Type 0 where
  pub same : IsPermutation chunks sorted
  pub ascend : IsNonDecreasingBy (λ (chunk : Chunk). chunk.start) sorted
  pub old_order : (start : ℕ) → filter (has_start start) sorted ≡ filter (has_start start) chunks

-- by_start orders each list so
abbrev pub OrdersByStart : Type 0
OrdersByStart = (chunks : List Chunk) → IsByStart chunks (by_start chunks)

-- the number of pairs that may follow decides nothing, where it is at least the number of bytes left
abbrev pub PairsNeverRunOut : Type 0
PairsNeverRunOut = (place : At) (array : List ℕ) (size n m at : ℕ) (chunks : List Chunk) → at ≤ size → size ≤ at + n → size ≤ at + m
    → pairs_from place array size n at chunks ≡ pairs_from place array size m at chunks

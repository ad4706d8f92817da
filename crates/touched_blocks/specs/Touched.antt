-- Which blocks pending writes touch, and where a block stands by two lists of chunks.
use Rattle.std.specs.Prelude.{ℕ, zero, suc, Bool, true, false, ◌&&◌, ◌||◌, ◌==◌, List, is_some}
use Rattle.std.specs.Ordering.{nat_cmp}
use Rattle.std.specs.FinMap.{FinMap, get}
use Rattle.verdict.specs.Chunks.{place}
use Rattle.verdict.specs.declared.place.Chunk.{Chunk}
use Rattle.verdict.specs.declared.place.Place.{Place}
use Rattle.verdict.specs.declared.place.Place.TheVariants.{Nowhere, One, Two}

-- which bytes of a device are written: a test of their offsets
abbrev pub Written : Type 0
Written = ℕ → Bool

-- the bytes that pending writes have, as a map from offsets to bytes
abbrev pub written_in : FinMap nat_cmp ℕ → Written
written_in pending at = is_some (get pending at)

-- whether one of n bytes from an offset on is written
unfoldable pub any_written : Written → ℕ → ℕ → Bool
any_written written at zero = false
any_written written at (suc n) = written at || any_written written (suc at) n

-- whether a byte of a copy is written, of n bytes that stand at a place
abbrev pub copy_written : Written → ℕ → Place → Bool
copy_written written n Nowhere = false
copy_written written n (One first) = any_written written first n
copy_written written n (Two first second) = any_written written first n || any_written written second n

-- whether two places are the same: one copy at one offset, or two at the same offsets in the same order
abbrev pub same_place : Place → Place → Bool
same_place Nowhere Nowhere = true
same_place (One first) (One other) = first == other
same_place (Two first second) (Two other another) = first == other && second == another
same_place place other = false

-- whether a write touches a byte of a copy of the block at a logical address, by a list of chunks, in blocks of nodesize bytes on a
-- device of end bytes
abbrev pub touches_block : Written → List Chunk → ℕ → ℕ → ℕ → Bool
touches_block written chunks nodesize end address = copy_written written nodesize (place chunks address nodesize end)

-- whether the block at an address stands where it stood: at the same place under an old and a new list of chunks
abbrev pub stays_in_place : List Chunk → List Chunk → ℕ → ℕ → ℕ → Bool
stays_in_place old new nodesize end address = same_place (place old address nodesize end) (place new address nodesize end)

-- Ranges of addresses that are added to a list, as those at which pending writes may touch a block. It serves to state what private
-- functions keep.
use Rattle.std.specs.Prelude.{ℕ, ◌≡◌, ◌+◌, ◌<◌, ◌≤◌, ◌^◌, ◌⊎◌, Bool, true, List, length, Some}
use Rattle.std.specs.List.{Contains}
use Rattle.verdict.specs.Chunks.{place}
use Rattle.verdict.specs.declared.place.Chunk.{Chunk}
use Rattle.touched_blocks.specs.declared.pending.Pending.{Pending}
use Rattle.touched_blocks.specs.declared.range.Range.{Range}
use Rattle.touched_blocks.specs.declared.spot.Spot.{Spot}
use Rattle.touched_blocks.specs.Looks.{has_place}
use Rattle.touched_blocks.specs.Moves.{AreApart}
use Rattle.touched_blocks.specs.Pending.{touches}
use Rattle.touched_blocks.specs.Spots.{has_offset, is_in}
use Rattle.touched_blocks.specs.Touched.{written_in}

-- a copy of a chunk of the list begins at an offset
abbrev pub IsCopyOf : List Chunk → Chunk → ℕ → Type 0
IsCopyOf chunks chunk copy = Contains chunks chunk × ((copy ≡ chunk.first) ⊎ (chunk.second ≡ Some copy))

-- of so many bytes from an offset on those that a range has are written
abbrev pub IsWrittenIn : Pending → Spot → ℕ → ℕ → Type 0
IsWrittenIn pending spot copy length =
    (o : ℕ) → copy ≤ o → o < copy + length → has_offset o spot ≡ true → written_in pending.cache.now o ≡ true

-- the writes touch the block at an address, where it has a place by chunks that lie apart
abbrev pub IsTouched : Pending → ℕ → Type 0
IsTouched pending address =
    has_place (place pending.map.now address pending.nodesize pending.end) ≡ true → AreApart pending.map.now → 0 < pending.nodesize
    → touches pending address ≡ true

-- To a list of ranges no more than so many are added. They have the addresses that must be, and no other than those of which a thing is so.
pub record AreAdded (Is : ℕ → Type 0) (must : ℕ → Bool) (count : ℕ) (old new : List Range) : Type 0 where
  pub kept : (a : ℕ) → is_in old a ≡ true → is_in new a ≡ true
  pub found : (a : ℕ) → a < 2 ^ 64 → must a ≡ true → is_in new a ≡ true
  pub only : (a : ℕ) → is_in new a ≡ true → (is_in old a ≡ true) ⊎ Is a
  pub few : length new ≤ length old + count

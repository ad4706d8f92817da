-- Ranges of bytes of the device, and the blocks of which they meet a copy.
use Rattle.std.specs.Prelude.{ℕ, ◌≡◌, ◌+◌, ◌-◌, ◌<◌, ◌≤◌, Bool, true, ◌&&◌, nat_le, nat_lt, List, length, slice_index_or, Option, Some, None}
use Rattle.std.specs.List.{list_any}
use Rattle.verdict.specs.Chunks.{holds_range}
use Rattle.verdict.specs.declared.place.Chunk.{Chunk}
use Rattle.touched_blocks.specs.declared.range.Range.{Range}
use Rattle.touched_blocks.specs.declared.spot.Spot.{Spot}
use Rattle.touched_blocks.specs.Marks.{Marked}
use Rattle.touched_blocks.specs.Touched.{Written}

-- whether two ranges of bytes have one in common: m from one offset on, and n from another on; a range of no bytes meets nothing
abbrev pub ranges_meet : ℕ → ℕ → ℕ → ℕ → Bool
ranges_meet at m from n = (nat_lt 0 m && nat_lt 0 n) && (nat_lt from (at + m) && nat_lt at (from + n))

-- whether a range has the byte at an offset
abbrev pub has_offset : ℕ → Spot → Bool
has_offset o spot = nat_le spot.at o && nat_lt o (spot.at + spot.len)

-- each range ends where a later one begins, or before that
abbrev pub StandApart : List Spot → Type 0
StandApart spots =
    (i j : ℕ) (d : Spot) → i < j → j < length spots → (slice_index_or spots i d).at + (slice_index_or spots i d).len ≤ (slice_index_or spots j d).at

-- ranges in rising order, one of which has a byte just where it is written
pub record AreSpotsOf (written : Written) (spots : List Spot) : Type 0 where
  pub apart : StandApart spots
  pub whole : (o : ℕ) → written o ≡ list_any (has_offset o) spots

-- whether an address is one from one on up to another
abbrev pub lies_between : ℕ → ℕ → ℕ → Bool
lies_between from last address = nat_le from address && nat_le address last

-- the pairs at an address that passes a test
abbrev pub at_address : (ℕ → Bool) → Marked
at_address test tree address = test address

-- whether a chunk holds the block of nodesize bytes at an address, and a range of the device meets it where one of the chunk's copies
-- begins at an offset
abbrev pub meets_in_copy : Spot → ℕ → Chunk → ℕ → ℕ → Bool
meets_in_copy spot nodesize chunk copy address =
    holds_range chunk address nodesize && ranges_meet spot.at spot.len (copy + (address - chunk.start)) nodesize

-- whether a range of addresses has one; and whether one of some ranges has it
abbrev pub has_address : ℕ → Range → Bool
has_address address range = lies_between range.from range.last address

abbrev pub is_in : List Range → ℕ → Bool
is_in ranges address = list_any (has_address address) ranges

-- whether an address lies in a range, where there is one
abbrev pub LiesIn : Option Range → ℕ → Type 0
LiesIn None address = ⊥
LiesIn (Some range) address = has_address address range ≡ true

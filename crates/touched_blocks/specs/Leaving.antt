-- Ranges of addresses at which only blocks stand that move. It serves to state what private functions keep.
use Rattle.std.specs.Prelude.{ℕ, ◌≡◌, ◌+◌, ◌<◌, ◌≤◌, ◌^◌, ◌⊎◌, Bool, true, false, not, ◌&&◌, ◌==◌, nat_le, nat_lt, List, length, Option, Some, None, if◌then◌else◌}
use Rattle.std.specs.List.{count_by, list_any}
use Rattle.verdict.specs.Chunks.{holds_range, place}
use Rattle.verdict.specs.declared.place.Chunk.{Chunk}
use Rattle.touched_blocks.specs.declared.moved.Move.{Move}
use Rattle.touched_blocks.specs.declared.range.Range.{Range}
use Rattle.touched_blocks.specs.Looks.{has_place}
use Rattle.touched_blocks.specs.Moves.{AreApart, is_kept_chunk, move_passes}
use Rattle.touched_blocks.specs.Spots.{is_in}

-- whether addresses from one on and those from another on stand equally far from where their copies begin
abbrev pub same_offset : ℕ → ℕ → ℕ → ℕ → Bool
same_offset start at other to = at + other == to + start

-- the same of second copies, where both are or none is
abbrev pub same_seconds : ℕ → Option ℕ → ℕ → Option ℕ → Bool
same_seconds start None other None = true
same_seconds start (Some at) other (Some to) = same_offset start at other to
same_seconds start at other to = false

-- whether two chunks give an address that both have the same place
abbrev pub lie_alike : Chunk → Chunk → Bool
lie_alike c d = same_offset c.start c.first d.start d.first && same_seconds c.start c.second d.start d.second

-- whether two such chunks both hold the block at an address
abbrev pub both_hold : ℕ → Chunk → ℕ → Chunk → Bool
both_hold nodesize c address d = lie_alike c d && (holds_range c address nodesize && holds_range d address nodesize)

-- whether each of two chunks ends so many bytes behind where the other begins, or later
abbrev pub meet_by : ℕ → Chunk → Chunk → Bool
meet_by nodesize c d = nat_le (c.start + nodesize) (d.start + d.length) && nat_le (d.start + nodesize) (c.start + c.length)

-- whether an old chunk is not the same among the new ones, and holds the block at an address, which no new one holds at the same place
abbrev pub leaves : Move → ℕ → Chunk → Bool
leaves move address chunk =
    not (is_kept_chunk move.new.now chunk) && (holds_range chunk address move.nodesize && not (list_any (both_hold move.nodesize chunk address) move.new.now))

-- whether that is so of one of the old chunks
abbrev pub leaves_one : Move → ℕ → Bool
leaves_one move address = list_any (leaves move address) move.old.now

-- the block at an address moves, where it has a place by old chunks that lie apart
abbrev pub IsMoving : Move → ℕ → Type 0
IsMoving move address =
    has_place (place move.old.now address move.nodesize move.end) ≡ true → AreApart move.old.now → 0 < move.nodesize → move_passes move address ≡ true

-- how many ranges an old chunk has at most: one, and one for each new chunk that it meets
abbrev pub ranges_left : ℕ → List Chunk → Chunk → ℕ
ranges_left nodesize new chunk = 1 + count_by (meet_by nodesize chunk) new

-- A cursor is the address that comes next, or none where nothing comes. Whether it has passed an address.
abbrev pub is_past : Option ℕ → ℕ → Bool
is_past None address = true
is_past (Some next) address = nat_lt address next

-- a chunk ends so many bytes behind an address or later, and the address has 64 bits
abbrev pub HasRoom : ℕ → Chunk → ℕ → Type 0
HasRoom nodesize chunk address = (address + nodesize ≤ chunk.start + chunk.length) × (address < 2 ^ 64)

-- To a list of ranges at most one is added. It has the addresses in a chunk from a cursor on that lie in front of those at which another
-- chunk holds blocks at the same place. The next cursor is behind these.
pub record IsPassed (nodesize : ℕ) (chunk other : Chunk) (from to : Option ℕ) (old new : List Range) : Type 0 where
  pub kept : (a : ℕ) → is_in old a ≡ true → is_in new a ≡ true
  pub found : (a : ℕ) → a < 2 ^ 64 → is_past to a ≡ true → (is_past from a ≡ true) ⊎ (is_in new a ≡ true) ⊎ (both_hold nodesize chunk a other ≡ true)
  pub only : (a : ℕ) → is_in new a ≡ true
      → (is_in old a ≡ true) ⊎ ((is_past from a ≡ false) × HasRoom nodesize chunk a × (chunk.start ≤ a → a < other.start))
  pub past : (a : ℕ) → a < 2 ^ 64 → both_hold nodesize chunk a other ≡ true → is_past to a ≡ true
  pub on : (a : ℕ) → is_past from a ≡ true → is_past to a ≡ true
  pub few : length new ≤ length old + (if meet_by nodesize chunk other then 1 else 0)

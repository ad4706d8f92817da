-- Blocks that stand at another place under a new list of chunks than under the old one.
use Rattle.std.specs.Prelude.{ℕ, ◌+◌, ◌≤◌, ◌⊎◌, Bool, true, false, not, ◌&&◌, ◌==◌, List, [], ◌∷◌, Option, Some, None, is_some}
use Rattle.std.specs.List.{AllByRecursion}
use Rattle.verdict.specs.Chunks.{home}
use Rattle.verdict.specs.declared.place.Chunk.{Chunk}
use Rattle.touched_blocks.specs.declared.moved.Move.{Move}
use Rattle.touched_blocks.specs.Touched.{stays_in_place}

-- whether the block at an address does not stand where it stood
abbrev pub is_moved : List Chunk → List Chunk → ℕ → ℕ → ℕ → Bool
is_moved old new nodesize end address = not (stays_in_place old new nodesize end address)

-- the same, of a block that a chunk of the old list holds
abbrev pub held_and_moved : List Chunk → List Chunk → ℕ → ℕ → ℕ → Bool
held_and_moved old new nodesize end address = is_some (home old address nodesize) && is_moved old new nodesize end address

-- two chunks have no logical address in common
abbrev pub LieApart : Chunk → Chunk → Type 0
LieApart c d = (c.start + c.length ≤ d.start) ⊎ (d.start + d.length ≤ c.start)

-- no two chunks of a list have one
abbrev pub AreApart : List Chunk → Type 0
AreApart [] = Unit {0}
AreApart (chunk ∷ chunks) = AllByRecursion (LieApart chunk) chunks × AreApart chunks

-- whether two chunks hold the same addresses at the same places
abbrev pub same_second : Option ℕ → Option ℕ → Bool
same_second None None = true
same_second (Some a) (Some b) = a == b
same_second one other = false

abbrev pub same_chunk : Chunk → Chunk → Bool
same_chunk c d = (c.start == d.start && c.length == d.length) && (c.first == d.first && same_second c.second d.second)

-- whether a chunk is the same in a new list
abbrev pub is_same_in : Chunk → Option Chunk → Bool
is_same_in chunk None = false
is_same_in chunk (Some other) = same_chunk chunk other

abbrev pub is_kept_chunk : List Chunk → Chunk → Bool
is_kept_chunk new chunk = is_same_in chunk (home new chunk.start chunk.length)

-- whether the block at an address moved, by what is compared
unfoldable pub move_passes : Move → ℕ → Bool
move_passes move address = is_moved move.old.now move.new.now move.nodesize move.end address

-- How many looks it costs to find the pairs that pending writes touch.
use Rattle.std.specs.Prelude.{ℕ, ◌≡◌, ◌+◌, ◌≤◌, ◌⊎◌, Bool, true, false, List, [], ◌∷◌, length, map, Option, Some, None, is_some}
use Rattle.std.specs.List.{AllByRecursion, count_by, sum_by}
use Rattle.verdict.specs.Chunks.{place}
use Rattle.verdict.specs.declared.place.Chunk.{Chunk}
use Rattle.verdict.specs.declared.place.Place.{Place}
use Rattle.verdict.specs.declared.place.Place.TheVariants.{Nowhere, One, Two}
use Rattle.live_index.specs.Pairs.{Pairs}
use Rattle.write_cache.specs.Pieces.{Piece}
use Rattle.touched_blocks.specs.declared.spot.Spot.{Spot}
use Rattle.touched_blocks.specs.Spots.{ranges_meet}

-- whether there is a place
abbrev pub has_place : Place → Bool
has_place Nowhere = false
has_place (One first) = true
has_place (Two first second) = true

-- each pair of a table has a place by a list of chunks, in blocks of nodesize bytes on a device of end bytes
abbrev pub ArePlaced : Pairs → List Chunk → ℕ → ℕ → Type 0
ArePlaced pairs chunks nodesize end =
    (tree address : ℕ) → is_some (pairs tree address) ≡ true → has_place (place chunks address nodesize end) ≡ true

-- the range of the device that a piece of the writes has
abbrev pub spot_of : Piece → Spot
spot_of piece = record { at = piece.at; len = length piece.bytes }

-- how many of some ranges of the device meet a copy of so many bytes that begins at an offset; and a second copy, where there is one
abbrev pub in_one_copy : List Spot → ℕ → ℕ → ℕ
in_one_copy spots length copy = count_by (λ spot. ranges_meet spot.at spot.len copy length) spots

abbrev pub in_second_copy : List Spot → ℕ → Option ℕ → ℕ
in_second_copy spots length None = 0
in_second_copy spots length (Some copy) = in_one_copy spots length copy

-- how many meet the copies of a chunk, where one that meets both counts twice
abbrev pub in_copies : List Spot → Chunk → ℕ
in_copies spots chunk = in_one_copy spots chunk.length chunk.first + in_second_copy spots chunk.length chunk.second

-- how many of the ranges meet each copy of each chunk, all in one sum
abbrev pub range_count : List Spot → List Chunk → ℕ
range_count spots chunks = sum_by (in_copies spots) chunks

-- How many times a piece of the writes meets a copy of a chunk: one for each piece and each copy that it meets. The pieces are the maximal
-- runs of written bytes.
abbrev pub meet_count : List Piece → List Chunk → ℕ
meet_count pieces chunks = range_count (map spot_of pieces) chunks

-- the ranges of the device in which the copies of chunks stand
abbrev pub copy_at : ℕ → ℕ → Spot
copy_at length copy = record { at = copy; len = length }

abbrev pub with_second : ℕ → Option ℕ → List Spot → List Spot
with_second length None copies = copies
with_second length (Some copy) copies = copy_at length copy ∷ copies

abbrev pub copies_of : List Chunk → List Spot
copies_of [] = []
copies_of (chunk ∷ chunks) = copy_at chunk.length chunk.first ∷ with_second chunk.length chunk.second (copies_of chunks)

-- one of two ranges of the device ends where the other begins, or before that
abbrev pub EndsBefore : Spot → Spot → Type 0
EndsBefore one other = (one.at + one.len ≤ other.at) ⊎ (other.at + other.len ≤ one.at)

-- that is so of any two of a list
abbrev pub NoneMeet : List Spot → Type 0
NoneMeet [] = Unit {0}
NoneMeet (one ∷ others) = AllByRecursion (EndsBefore one) others × NoneMeet others

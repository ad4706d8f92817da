-- Which chunks of a list another list keeps, and whether the chunks of a list stand apart.
use Rattle.std.specs.Prelude.{◌+◌, ◌≤◌, Bool, false, ◌&&◌, ◌==◌, List, Option, Some, None}
use Rattle.std.specs.List.{AllPairs}
use Rattle.verdict.specs.Chunks.{home}
use Rattle.verdict.specs.declared.place.Chunk.{Chunk}

-- each chunk ends at most where each later one starts
abbrev pub StandApart : List Chunk → Type 0
StandApart chunks = AllPairs (λ (chunk later : Chunk). chunk.start + chunk.length ≤ later.start) chunks

-- whether there is a chunk with the start, length and class of another: where the copies stand does not matter
abbrev pub is_like : Chunk → Option Chunk → Bool
is_like chunk None = false
is_like chunk (Some other) = other.start == chunk.start && (other.length == chunk.length && other.class == chunk.class)

-- whether another list keeps a chunk: what holds its range there is its like
unfoldable pub is_kept : List Chunk → Chunk → Bool
is_kept others chunk = is_like chunk (home others chunk.start chunk.length)

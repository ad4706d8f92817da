-- Chunks in the order of their starts.
use Rattle.std.specs.Prelude.{nat_le, List, [], ◌∷◌, if◌then◌else◌}
use Rattle.verdict.specs.declared.place.Chunk.{Chunk}

-- a chunk among chunks by start, behind those that do not start behind it
abbrev pub put_by_start : Chunk → List Chunk → List Chunk
put_by_start chunk [] = chunk ∷ []
put_by_start chunk (other ∷ others) =
    if nat_le other.start chunk.start then other ∷ put_by_start chunk others else chunk ∷ other ∷ others

-- the chunks of a list put one after the other among chunks by start
unfoldable pub all_by_start : List Chunk → List Chunk → List Chunk
all_by_start sorted [] = sorted
all_by_start sorted (chunk ∷ chunks) = all_by_start (put_by_start chunk sorted) chunks

-- the chunks of a list by start, those of one start in the order of the list
abbrev pub by_start : List Chunk → List Chunk
by_start chunks = all_by_start [] chunks

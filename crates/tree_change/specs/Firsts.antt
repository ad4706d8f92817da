-- Chunks of which each has its first copy alone.
use Rattle.std.specs.Prelude.{List, None, map}
use Rattle.verdict.specs.declared.place.Chunk.{Chunk}

-- a chunk with its first copy alone
abbrev pub first_copy : Chunk → Chunk
first_copy chunk = record {
  start = chunk.start;
  length = chunk.length;
  class = chunk.class;
  first = chunk.first;
  second = None;
}

-- the same of each chunk
abbrev pub first_copies : List Chunk → List Chunk
first_copies chunks = map first_copy chunks

-- The chunks of a superblock's system chunk array, as the answer of a call.
use Rattle.std.specs.Prelude.{List, Result, Ok, Err}
use Rattle.verdict.specs.declared.finding.Finding.{Finding}
use Rattle.verdict.specs.declared.place.Chunk.{Chunk}
use Rattle.super_reader.specs.declared.Super.{Super}
use Rattle.super_reader.specs.Superblock.{array_place}
use Rattle.volume_items.specs.SystemArray.{array_chunks}
use Rattle.chunk_map.specs.declared.map.Sys.{Sys}
use Rattle.chunk_map.specs.declared.map.Sys.TheVariants.{Map, Found}

-- the chunks of the array in its order, or the first finding
abbrev pub chunks_of : Super → Result (List Chunk) Finding
chunks_of sup = array_chunks (array_place sup) sup.array sup.array_size

-- that as the answer of a call
abbrev pub sys_of : Result (List Chunk) Finding → Sys
sys_of (Ok chunks) = Map chunks
sys_of (Err finding) = Found finding

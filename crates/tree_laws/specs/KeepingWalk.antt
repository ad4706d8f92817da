-- The walk that keeps blocks of a tree of an image.
use Rattle.std.specs.Prelude.{List, ℕ}
use Rattle.verdict.specs.declared.place.Chunk.{Chunk}
use Rattle.super_reader.specs.declared.Super.{Super}
use Rattle.node_reader.specs.Stored.{stored_in}
use Rattle.node_reader.specs.declared.expect.Expect.{Expect}
use Rattle.records.specs.Walk.{Records}
use Rattle.tree_laws.specs.Skips.{Anew, Kept, nothing, skip_of}

-- the records of the walk from the block on that is expected, which keeps blocks and gives nothing of them, in an image by a list of chunks
unfoldable pub skip_in : Kept → Anew → Super → List Chunk → Expect → List ℕ → Records
skip_in kept anew sup chunks e image = skip_of kept nothing anew sup (stored_in image chunks sup.nodesize) e

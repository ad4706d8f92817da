use Rattle.std.proofs.Common.{arith, refl}
use Rattle.std.specs.Prelude.{None}
use Rattle.chunk_map.proofs.Ordered.{AllFit-get}
use Rattle.chunk_map.proofs.copies.logical_in_list.Goals as goal

pub logical_in-requires : goal.logical_in-requires
logical_in-requires c = omega (arith, AllFit-get c.args.chunks.now c.args.chunks.now c.loop-chunk.chunk-index (record { start = 0; length = 0; class = 0; first = 0; second = None }) c.requires refl c.loop-chunk-test.true)

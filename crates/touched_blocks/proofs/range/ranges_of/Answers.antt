use Rattle.std.proofs.Common.{arith}
use Rattle.std.proofs.lemmas.Grind.{common_steps}
use Rattle.std.proofs.lemmas.List.{take_all}
use Rattle.touched_blocks.proofs.Adding.{chunks_all}
use Rattle.touched_blocks.proofs.range.ranges_of.Goals as goal

pub returns-clause-ok : goal.returns-clause-ok
returns-clause-ok c =
    chunks_all c.args.pending.now c.chunks-chunk-items.result.now c.loop-chunk.chunk-index c.new-ranges.result.items c.loop-chunk.ranges.items c.sort_ranges.new.ranges.items
    c.loop-chunk.invariant.1 (take_all c.loop-chunk.chunk-index c.chunks-chunk-items.result.now (grind (arith, common_steps))) c.loop-chunk.invariant.0
    c.new-ranges.ensures.items c.sort_ranges.ensures.all

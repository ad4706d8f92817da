use Rattle.std.proofs.Common.{arith}
use Rattle.std.proofs.lemmas.Grind.{common_steps}
use Rattle.std.proofs.lemmas.List.{take_all}
use Rattle.touched_blocks.proofs.Gaps.{all_left, all_more}
use Rattle.touched_blocks.proofs.leaving.ranges_left.Goals as goal

pub loop-chunk-preserved : goal.loop-chunk-preserved
loop-chunk-preserved c = (
  all_more c.args.test.now c.chunks-chunk-items.result.now c.loop-chunk.chunk-index _ c.new-ranges.result.items c.loop-chunk.ranges.items c.add_left.new.into.items
      c.loop-chunk.invariant.0 c.loop-chunk-test.true c.in_ok-add_left.ensures,
  c.loop-chunk.invariant.1,
)

pub returns-clause-ok : goal.returns-clause-ok
returns-clause-ok c =
    all_left c.args.test.now c.chunks-chunk-items.result.now c.loop-chunk.chunk-index c.new-ranges.result.items c.loop-chunk.ranges.items c.sort_ranges.new.ranges.items
    c.loop-chunk.invariant.1 (take_all c.loop-chunk.chunk-index c.chunks-chunk-items.result.now (grind (arith, common_steps))) c.loop-chunk.invariant.0
    c.new-ranges.ensures.items c.sort_ranges.ensures.all

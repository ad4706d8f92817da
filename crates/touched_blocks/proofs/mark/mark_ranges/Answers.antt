use Rattle.std.proofs.Common.{arith}
use Rattle.std.proofs.lemmas.Grind.{common_steps}
use Rattle.std.proofs.lemmas.List.{take_all}
use Rattle.live_index.specs.Table.{pairs_of}
use Rattle.touched_blocks.proofs.Ranges.{ranges_all, ranges_more}
use Rattle.touched_blocks.proofs.mark.mark_ranges.Goals as goal

pub loop-range-preserved : goal.loop-range-preserved
loop-range-preserved g c =
    ranges_more (pairs_of c.args.table.now) c.args.only (g.T.AddressTest.passes c.args.test.now) c.args.ranges.now c.loop-range.range-index _ c.loop-range.cursor c.in_ok-cursor.cursor
    c.args.steps.now c.loop-range.steps c.mark_range.new.steps c.args.marks.now c.loop-range.marks c.mark_range.new.marks
    c.requires c.loop-range.invariant c.loop-range-test.true c.in_ok-cursor.ensures.ok c.in_ok-cursor.ensures.gone c.in_ok-cursor.ensures.looks

pub returns-clause-looks : goal.returns-clause-looks
returns-clause-looks g c =
    (ranges_all (pairs_of c.args.table.now) c.args.only (g.T.AddressTest.passes c.args.test.now) c.args.ranges.now c.loop-range.range-index c.loop-range.cursor
    c.args.steps.now c.loop-range.steps c.args.marks.now c.loop-range.marks
    (take_all c.loop-range.range-index c.args.ranges.now (grind (arith, common_steps))) (grind (arith, common_steps)) c.loop-range.invariant).looks

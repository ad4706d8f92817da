use Rattle.std.proofs.Common.{rules}
use Rattle.live_index.specs.Table.{pairs_of}
use Rattle.touched_blocks.proofs.Going.{way_more, way_none, way_past, way_start}
use Rattle.touched_blocks.proofs.mark.mark_range.Goals as goal

pub loop-live-init : goal.loop-live-init
loop-live-init g c =
    way_start (pairs_of c.args.table.now) c.args.only (g.T.AddressTest.passes c.args.test.now) c.args.range.now.from c.args.range.now.last c.args.cursor c.reached-at.result
    c.args.steps.now c.args.marks.now c.reached-at.ensures

pub returns-then-live-range-clause-looks : goal.returns-then-live-range-clause-looks
returns-then-live-range-clause-looks g c =
    (way_past (pairs_of c.args.table.now) c.args.only (g.T.AddressTest.passes c.args.test.now) c.args.range.now.from c.args.range.now.last c.args.cursor c.loop-live.at c.in-Some.live
    c.args.steps.now c.loop-live.steps c.first_from.new.steps c.args.marks.now c.loop-live.marks
    c.loop-live.invariant c.first_from.ensures.looks c.in-Some.ensures.value c.if-live-range.true).looks

pub loop-live-preserved : goal.loop-live-preserved
loop-live-preserved g c =
    way_more (pairs_of c.args.table.now) c.args.only (g.T.AddressTest.passes c.args.test.now) c.args.range.now.from c.args.range.now.last c.args.cursor c.loop-live.at c.behind-at.result
    c.in-Some.live c.args.steps.now c.loop-live.steps c.first_from.new.steps c.mark_met.new.steps c.args.marks.now c.loop-live.marks c.mark_met.new.marks
    c.loop-live.invariant c.in-Some.ensures.value c.if-live-range.false (search rules) (search rules)
    c.first_from.ensures.looks c.in_ok-mark_met.ensures.ok c.in_ok-mark_met.ensures.looks c.behind-at.ensures

pub returns-clause-looks : goal.returns-clause-looks
returns-clause-looks g c =
    (way_none (pairs_of c.args.table.now) c.args.only (g.T.AddressTest.passes c.args.test.now) c.args.range.now.from c.args.range.now.last c.args.cursor c.loop-live.at
    c.args.steps.now c.loop-live.steps c.first_from.new.steps c.args.marks.now c.loop-live.marks
    c.loop-live.invariant c.first_from.ensures.looks c.in_default.ensures.value).looks

use Rattle.std.proofs.Common.{subst, arith}
use Rattle.touched_blocks.proofs.Gaps.{AreLeft, left_more, left_none, left_rest}
use Rattle.touched_blocks.proofs.leaving.add_left.Goals as goal

pub loop-other-preserved : goal.loop-other-preserved
loop-other-preserved c =
    left_more c.args.test.now.nodesize c.args.chunk.now c.args.new.now c.loop-other.other-index _ c.loop-other.cursor c.in_ok-cursor.cursor
    c.args.into.now.items c.loop-other.into.items c.add_gap.new.into.items c.requires.ascend c.loop-other.invariant c.loop-other-test.true c.in_ok-cursor.ensures

pub returns-in-None : goal.returns-in-None
returns-in-None c =
    left_none c.args.test.now c.args.chunk.now c.args.new.now c.loop-other.cursor c.args.into.now.items c.loop-other.into.items c.rest_of.result
    c.requires.all c.requires.one
    (subst (λ i. AreLeft c.args.test.now.nodesize c.args.chunk.now c.args.new.now i c.loop-other.cursor c.args.into.now.items c.loop-other.into.items) (omega arith) c.loop-other.invariant)
    c.rest_of.ensures.all c.in-None.is

pub returns-in-Some : goal.returns-in-Some
returns-in-Some c =
    left_rest c.push.result c.args.test.now c.args.chunk.now c.args.new.now c.loop-other.cursor c.args.into.now.items c.loop-other.into.items c.push.new.into.items c.in-Some.range
    c.requires.all c.requires.one
    (subst (λ i. AreLeft c.args.test.now.nodesize c.args.chunk.now c.args.new.now i c.loop-other.cursor c.args.into.now.items c.loop-other.into.items) (omega arith) c.loop-other.invariant)
    c.in-Some.ensures.all c.in-Some.ensures.past c.in-Some.ensures.room c.push.ensures

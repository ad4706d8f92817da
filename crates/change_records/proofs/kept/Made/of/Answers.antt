use Rattle.std.proofs.Common.{subst}
use Rattle.std.proofs.Math.ListN.{drop_of_length-le}
use Rattle.change_records.proofs.MadeLaws.{IsHalf, half_all, half_more, half_none}
use Rattle.change_records.proofs.kept.Made.of.Goals as goal

pub loop-change-init : goal.loop-change-init
loop-change-init c = half_none c.args.old.now c.args.new.now c.args.changes.now c.new-made.result c.new-made.ensures.names c.new-made.ensures.flags c.new-made.ensures.once

pub loop-change-preserved : goal.loop-change-preserved
loop-change-preserved c =
    half_more c.args.old.now c.args.new.now c.args.changes.now c.loop-change.change-index _ c.loop-change.made c.apply.new.self c.loop-change-test.true
    c.in_ok-apply.ensures c.loop-change.invariant

pub returns : goal.returns
returns c =
    half_all c.args.old.now c.args.new.now c.args.changes.now c.loop-change.made
    (subst (λ l. IsHalf c.args.old.now c.args.new.now c.args.changes.now l c.loop-change.made) (drop_of_length-le c.args.changes.now c.loop-change-test.false) c.loop-change.invariant)

use Rattle.commit_judge.proofs.plans.Plan.{added_all, added_more}
use Rattle.commit_judge.proofs.plan.add_all.Goals as goal

pub loop-new-preserved : goal.loop-new-preserved
loop-new-preserved c =
    added_more c.args.changes.now.items c.loop-new.changes.items c.put.new.changes.items c.loop-new.new c.args.count c.loop-new-test.true
    c.loop-new.invariant c.in_ok-put.ensures

pub returns : goal.returns
returns c =
    added_all c.args.changes.now.items c.loop-new.changes.items c.loop-new.new c.args.count c.loop-new-test.false c.loop-new.invariant

use Rattle.commit_judge.proofs.plans.Plan.{removed_all, removed_more}
use Rattle.commit_judge.proofs.plan.remove_all.Goals as goal

pub loop-old-preserved : goal.loop-old-preserved
loop-old-preserved c =
    removed_more c.args.changes.now.items c.loop-old.changes.items c.put.new.changes.items c.loop-old.old c.args.count c.loop-old-test.true
    c.loop-old.invariant c.in_ok-put.ensures

pub returns : goal.returns
returns c =
    removed_all c.args.changes.now.items c.loop-old.changes.items c.loop-old.old c.args.count c.loop-old-test.false c.loop-old.invariant

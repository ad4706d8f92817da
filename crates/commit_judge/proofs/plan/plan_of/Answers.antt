use Rattle.std.proofs.Common.{◌∙◌}
use Rattle.commit_judge.proofs.plans.Plan.{few_planned, planned, super_found, tree_found}
use Rattle.commit_judge.proofs.plan.plan_of.Goals as goal

pub returns-in_err-fresh-clause-told : goal.returns-in_err-fresh-clause-told
returns-in_err-fresh-clause-told g c =
    super_found c.args.index.now c.args.cache.now (g.D.Disk.bytes c.args.disk.now) (g.D.Disk.reads c.args.disk.now) (g.D.Disk.reads c.args.disk.now)
    c.from_residual.result c.in_err-fresh.field-0.0 c.in_err-fresh.ensures c.from_residual.ensures.1

pub returns-in_ok-plan_by-in-Change-clause-told : goal.returns-in_ok-plan_by-in-Change-clause-told
returns-in_ok-plan_by-in-Change-clause-told g c =
    planned c.args.index.now c.args.cache.now (g.D.Disk.bytes c.args.disk.now) c.in_ok-fresh.fresh (g.D.Disk.reads c.args.disk.now)
    (g.D.Disk.reads c.difference.new.disk) c.in_ok-change.field-0 c.in-Change.change c.in_ok-plan_by-in-Change.field-0 c.in_ok-fresh.ensures
    c.in-Change.is c.in_ok-change.ensures.gives.told
    c.in_ok-plan_by-in-Change.ensures.bytes c.in_ok-plan_by-in-Change.ensures.sup c.in_ok-plan_by-in-Change.ensures.change
    c.in_ok-plan_by-in-Change.ensures.changes c.in_ok-plan_by-in-Change.ensures.refs

pub returns-in-Found-clause-told : goal.returns-in-Found-clause-told
returns-in-Found-clause-told g c =
    tree_found c.args.index.now c.args.cache.now (g.D.Disk.bytes c.args.disk.now) c.in_ok-fresh.fresh (g.D.Disk.reads c.args.disk.now)
    (g.D.Disk.reads c.difference.new.disk) c.in_ok-change.field-0 c.in-Found.finding c.in_ok-fresh.ensures
    c.in-Found.is c.in_ok-change.ensures.gives.told

pub returns-in_ok-plan_by-in-Change-clause-place : goal.returns-in_ok-plan_by-in-Change-clause-place
returns-in_ok-plan_by-in-Change-clause-place g c image room same =
    c.in_ok-plan_by-in-Change.ensures.bytes ∙ (c.in_ok-fresh.ensures image room same).0

pub returns-in_ok-plan_by-in-Change-clause-looks : goal.returns-in_ok-plan_by-in-Change-clause-looks
returns-in_ok-plan_by-in-Change-clause-looks g c =
    few_planned c.args.index.now c.args.cache.now (g.D.Disk.bytes c.args.disk.now) c.in_ok-fresh.fresh c.args.steps.now c.difference.new.steps
    c.plan_by.new.steps c.in_ok-change.field-0 c.in-Change.change c.in_ok-plan_by-in-Change.field-0 c.in_ok-fresh.ensures c.in-Change.is
    c.in_ok-change.ensures.looks c.in_ok-change.ensures.moved c.in_ok-plan_by-in-Change.ensures.change c.in_ok-plan_by-in-Change.ensures.looks

use Rattle.std.proofs.Common.{sym}
use Rattle.commit_judge.proofs.plans.Roots.{behind_last, behind_none}
use Rattle.commit_judge.proofs.roots.stands_behind.Goals as goal

pub returns-in-Some : goal.returns-in-Some
returns-in-Some c =
    behind_last c.args.list.now c.args.root.now c.in-Some.last.now c.is_below.result c.requires (sym c.in-Some.ensures.value) c.is_below.ensures

pub returns-in-None : goal.returns-in-None
returns-in-None c = behind_none c.args.list.now c.args.root.now (sym c.in-None.ensures.value)

use Rattle.std.proofs.Common.{List, subst}
use Rattle.change_records.specs.declared.changes.ItemChange.{ItemChange}
use Rattle.commit_judge.specs.Index.{known}
use Rattle.commit_judge.specs.Work.{FindsByFew}
use Rattle.commit_judge.proofs.plan.plan_by.Goals as goal

pub returns-clause-looks : goal.returns-clause-looks
returns-clause-looks g c =
    subst (λ (changes : List ItemChange). FindsByFew (known c.args.index.now)
    (record { fresh = c.args.fresh.now.sup; change = c.args.change; changes = changes; refs = c.in_ok-refs.refs.items }) c.args.steps.now c.refs_in.new.steps)
    c.deref.ensures.value (c.in_ok-refs.ensures.looks c.args.fresh.now.sup)

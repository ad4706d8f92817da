use Rattle.commit_judge.specs.Index.{known}
use Rattle.commit_judge.proofs.plans.Plan.{affected_by}
use Rattle.commit_judge.proofs.plan.refs_in.Goals as goal

pub returns-clause-value : goal.returns-clause-value
returns-clause-value g c sup =
    affected_by c.args.alike (known c.args.index.now) sup c.args.change.now c.args.changes.now c.deref.result.now c.deref-2.result.now
    (λ refs. refs.items) c.affected.result c.if-not-alike.false c.deref.ensures.value c.deref-2.ensures.value c.affected.ensures.value

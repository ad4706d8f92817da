use Rattle.commit_judge.proofs.span_tables.Runs.{merged_apart, merged_first, merged_joined}
use Rattle.commit_judge.proofs.runs.merged.Goals as goal

pub loop-run-init : goal.loop-run-init
loop-run-init c =
    merged_first c.args.runs.now c.in-Some.rest.now c.new-some.result.items c.in-Some.first.now c.in-Some.ensures.cases.0
    c.requires.runs c.requires.ascend c.new-some.ensures.items

pub loop-run-preserved-then-run-open : goal.loop-run-preserved-then-run-open
loop-run-preserved-then-run-open c =
    merged_joined c.args.runs.now c.in-Some.rest.now c.loop-run.run-index _ c.loop-run.some.items c.loop-run.open c.max.result c.loop-run-test.true
    c.requires.runs c.if-run-open.true c.max.ensures c.loop-run.invariant

pub loop-run-preserved : goal.loop-run-preserved
loop-run-preserved c =
    merged_apart c.args.runs.now c.in-Some.rest.now c.loop-run.run-index _ c.loop-run.some.items c.push_some.new.into.items c.loop-run.open
    c.loop-run-test.true c.requires.runs c.requires.ascend c.if-run-open.false c.in_ok-push_some.ensures c.loop-run.invariant

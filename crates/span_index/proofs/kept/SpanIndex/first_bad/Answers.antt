use Rattle.std.proofs.Common.{drop, ◌+◌, sym, ◌∙◌}
use Rattle.std.proofs.lemmas.List.{drop_all}
use Rattle.span_index.specs.Sweep.{spans_of}
use Rattle.span_index.specs.Table.{times_of}
use Rattle.span_index.proofs.ListLaws.{all_spans}
use Rattle.span_index.proofs.RunLaws.{among_at, from_itself, has_begun, is_run, judge_begins, judge_by, judged_by, judged_none, left_from, run_at}
use Rattle.span_index.proofs.kept.SpanIndex.first_bad.Goals as goal

pub loop-run-init : goal.loop-run-init
loop-run-init g c =
    judge_begins (g.C.Ctx.context c.args.ctx.now) (times_of c.args.self.now) (spans_of c.args.self.now) c.args.runs.now c.new-walks.result
    c.args.steps.now
    c.requires (c.new-walks.ensures.walked (g.C.Ctx.context c.args.ctx.now) (times_of c.args.self.now) (spans_of c.args.self.now))

pub search-bad-requires : goal.search-bad-requires
search-bad-requires g c κs within =
    let run = is_run (g.C.Ctx.context c.args.ctx.now) (times_of c.args.self.now) (spans_of c.args.self.now) c.args.runs.now
    (drop c.loop-run.run-index c.args.runs.now) c.loop-run.run-index
    c.loop-run.walks c.args.steps.now c.loop-run.steps c.loop-run.invariant (run_at c.args.runs.now c.loop-run.run-index)
    (drop (c.loop-run.run-index + 1) c.args.runs.now)
    (left_from c.args.runs.now c.loop-run.run-index c.loop-run-test.true) in
    let begun = has_begun (g.C.Ctx.context c.args.ctx.now) (times_of c.args.self.now) (spans_of c.args.self.now) c.args.runs.now
    (drop c.loop-run.run-index c.args.runs.now) c.loop-run.run-index
    c.loop-run.walks c.args.steps.now c.loop-run.steps c.loop-run.invariant (run_at c.args.runs.now c.loop-run.run-index)
    (drop (c.loop-run.run-index + 1) c.args.runs.now)
    (left_from c.args.runs.now c.loop-run.run-index c.loop-run-test.true) c.begin-begun.result c.begin-begun.new.steps c.begin-begun.ensures in
    (within.0, (within.1, (c.len.ensures.ordered, (run, (from_itself (run_at c.args.runs.now c.loop-run.run-index), (begun.begun, begun.walked))))))

pub returns-then-is_some : goal.returns-then-is_some
returns-then-is_some g c =
    judged_by (g.C.Ctx.context c.args.ctx.now) (times_of c.args.self.now) (spans_of c.args.self.now) c.args.runs.now
    (drop c.loop-run.run-index c.args.runs.now) c.loop-run.run-index
    c.loop-run.walks c.args.steps.now c.loop-run.steps c.loop-run.invariant (run_at c.args.runs.now c.loop-run.run-index)
    (drop (c.loop-run.run-index + 1) c.args.runs.now)
    (left_from c.args.runs.now c.loop-run.run-index c.loop-run-test.true) c.begin-begun.result c.begin-begun.new.steps c.begin-begun.ensures
    c.search-bad.result.0 c.search-bad.new.steps
    (among_at c.args.runs.now c.loop-run.run-index c.loop-run-test.true) c.search-bad.ensures.looks
    (all_spans c.args.self.now.spans c.args.self.now.own c.len.ensures.ordered) c.loop-run-test.true c.search-bad.result.1
    (sym c.is_some.ensures ∙ c.if-is_some.true) c.search-bad.ensures.first

pub loop-run-preserved : goal.loop-run-preserved
loop-run-preserved g c =
    judge_by (g.C.Ctx.context c.args.ctx.now) (times_of c.args.self.now) (spans_of c.args.self.now) c.args.runs.now
    (drop c.loop-run.run-index c.args.runs.now) c.loop-run.run-index
    c.loop-run.walks c.args.steps.now c.loop-run.steps c.loop-run.invariant (run_at c.args.runs.now c.loop-run.run-index)
    (drop (c.loop-run.run-index + 1) c.args.runs.now)
    (left_from c.args.runs.now c.loop-run.run-index c.loop-run-test.true) c.begin-begun.result c.begin-begun.new.steps c.begin-begun.ensures
    c.search-bad.result.0 c.search-bad.new.steps
    (among_at c.args.runs.now c.loop-run.run-index c.loop-run-test.true) c.search-bad.ensures.looks
    c.search-bad.ensures.walked c.search-bad.result.1 (sym c.is_some.ensures ∙ c.if-is_some.false) c.search-bad.ensures.first

pub returns : goal.returns
returns g c =
    judged_none (g.C.Ctx.context c.args.ctx.now) (times_of c.args.self.now) (spans_of c.args.self.now) c.args.runs.now
    (drop c.loop-run.run-index c.args.runs.now) c.loop-run.run-index
    c.loop-run.walks c.args.steps.now c.loop-run.steps c.loop-run.invariant (drop_all c.loop-run.run-index c.args.runs.now c.loop-run-test.false)
    (all_spans c.args.self.now.spans c.args.self.now.own c.len.ensures.ordered) c.loop-run.auto.run-index-end

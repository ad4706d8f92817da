use Rattle.std.proofs.Common.{drop}
use Rattle.span_index.specs.Sweep.{spans_of}
use Rattle.span_index.specs.Table.{times_of}
use Rattle.span_index.proofs.RunLaws.{IsJudging}
use Rattle.span_index.proofs.kept.SpanIndex.first_bad.Given as goal

abbrev pub ghost-search : goal.ghost-search
ghost-search g a = a.run.now.from

abbrev pub invariant-loop-run : goal.invariant-loop-run
invariant-loop-run g l = IsJudging (g.C.Ctx.context l.ctx) (times_of l.self) (spans_of l.self) l.runs (drop l.run-index l.runs) l.run-index l.walks
    l.initial.steps l.steps

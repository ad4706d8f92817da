use Rattle.std.proofs.Common.{◌-◌}
use Rattle.span_index.specs.Sweep.{spans_of}
use Rattle.span_index.specs.Table.{times_of}
use Rattle.span_index.proofs.RunLaws.{IsSearching}
use Rattle.span_index.proofs.judge.Walks.search.Given as goal

abbrev pub ghost-pass : goal.ghost-pass
ghost-pass g a = g.low

abbrev pub invariant-loop-at : goal.invariant-loop-at
invariant-loop-at g l = IsSearching (g.C.Ctx.context l.ctx) (times_of l.index) (spans_of l.index) g.low l.run l.at l.fn.self l.walks l.initial.steps
    l.steps

abbrev pub decreases-loop-at : goal.decreases-loop-at
decreases-loop-at g l = l.run.until - l.at

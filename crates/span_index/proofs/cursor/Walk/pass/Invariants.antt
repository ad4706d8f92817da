use Rattle.std.proofs.Common.{◌-◌}
use Rattle.std.specs.List.{sum_by}
use Rattle.span_index.specs.Sweep.{passed_sum, spans_of}
use Rattle.span_index.specs.Table.{times_of}
use Rattle.span_index.specs.Walks.{IsPassing}
use Rattle.span_index.proofs.cursor.Walk.pass.Given as goal

abbrev pub invariant-loop-span : goal.invariant-loop-span
invariant-loop-span g l = IsPassing (g.C.Ctx.context l.ctx) (times_of l.index) (spans_of l.index) g.low l.address l.initial.walk l.walk l.initial.steps l.steps

abbrev pub decreases-loop-span : goal.decreases-loop-span
decreases-loop-span g l = sum_by (λ x. 1) (spans_of l.index) - passed_sum (λ x. 1) l.walk.head (spans_of l.index)

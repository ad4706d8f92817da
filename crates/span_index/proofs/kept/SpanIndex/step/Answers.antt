use Rattle.std.proofs.Common.{subst}
use Rattle.std.specs.Prelude.{None, Some, nat_le}
use Rattle.span_index.specs.Places.{IsMetWhere}
use Rattle.span_index.specs.Table.{times_of}
use Rattle.span_index.proofs.StepLaws.{head_at, stepped_at, stepped_end}
use Rattle.span_index.proofs.kept.SpanIndex.step.Goals as goal

-- src/cursor.rt:26:5
pub returns-in-Some-clause-head : goal.returns-in-Some-clause-head
returns-in-Some-clause-head g c =
    head_at (times_of c.args.self.now) c.args.sort c.args.address c.args.head c.requires c.in-Some.span c.in-Some.times
    (subst (λ a. IsMetWhere (nat_le 1) (times_of c.args.self.now) c.args.sort c.args.address a (Some c.in-Some.span)) c.above.ensures c.in-Some.ensures.value) c.in-Some.ensures.times

-- src/cursor.rt:26:5
pub returns-in-Some-clause-step : goal.returns-in-Some-clause-step
returns-in-Some-clause-step g c =
    stepped_at (times_of c.args.self.now) c.args.sort c.args.address c.args.head c.requires c.in-Some.span c.in-Some.times
    (subst (λ a. IsMetWhere (nat_le 1) (times_of c.args.self.now) c.args.sort c.args.address a (Some c.in-Some.span)) c.above.ensures c.in-Some.ensures.value)

-- src/cursor.rt:26:5
pub returns-in-None-clause-step : goal.returns-in-None-clause-step
returns-in-None-clause-step g c =
    stepped_end (times_of c.args.self.now) c.args.sort c.args.address c.args.head c.requires
    (subst (λ a. IsMetWhere (nat_le 1) (times_of c.args.self.now) c.args.sort c.args.address a None) c.above.ensures c.in-None.ensures.value)

use Rattle.std.proofs.Common.{◌≡◌, sym, subst, true, false, rules, tests}
use Rattle.std.specs.Prelude.{◌==◌}
use Rattle.span_index.specs.Order.{rank}
use Rattle.span_index.specs.Places.{IsClassFrom, times_in}
use Rattle.span_index.proofs.MeetingLaws.{no_class, other_sort, that_class}
use Rattle.span_index.proofs.kept.SpanIndex.class_from.Goals as goal

-- src/meeting.rt:47:26
pub returns-in_err-place : goal.returns-in_err-place
returns-in_err-place g c =
    subst (IsClassFrom (times_in c.args.self.now.spans) c.args.sort c.args.class) (sym c.from_residual.ensures)
    (no_class c.args.self.now.spans c.args.self.now.own c.args.sort c.args.class c.range.result (c.range.ensures.in_range tt) c.in_err-place.ensures.steps.0)

-- src/meeting.rt:39:5
pub returns-then-eq : goal.returns-then-eq
returns-then-eq g c =
    let same : (rank c.in_ok-place.place.now.sort == rank c.args.sort) ≡ true = search (rules, tests) in
    that_class c.args.self.now.spans c.args.self.now.own c.args.sort c.args.class c.range.result (c.range.ensures.in_range tt) (c.in_ok-place.place.now, c.in_ok-place.field-0-1.now) c.next.new.self c.in_ok-place.ensures.steps same

-- src/meeting.rt:39:5
pub returns-else-eq : goal.returns-else-eq
returns-else-eq g c =
    let apart : (rank c.in_ok-place.place.now.sort == rank c.args.sort) ≡ false = search (rules, tests) in
    other_sort c.args.self.now.spans c.args.self.now.own c.args.sort c.args.class c.range.result (c.range.ensures.in_range tt) (c.in_ok-place.place.now, c.in_ok-place.field-0-1.now) c.next.new.self c.in_ok-place.ensures.steps apart

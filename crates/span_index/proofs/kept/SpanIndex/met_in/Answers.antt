use Rattle.std.proofs.Common.{◌∙◌, sym, subst}
use Rattle.std.specs.Prelude.{◌==◌, option_map}
use Rattle.span_index.specs.Places.{IsMetWhere, times_in}
use Rattle.span_index.proofs.MeetingLaws.{met, none_met, other_met, times_met}
use Rattle.span_index.proofs.kept.SpanIndex.met_in.Goals as goal

pub returns-in_err-place-clause-value : goal.returns-in_err-place-clause-value
returns-in_err-place-clause-value g c =
    subst (λ r. IsMetWhere (λ k. k == c.args.class) (times_in c.args.self.now.spans) c.args.sort c.args.address c.args.after (option_map (λ p. p.0) r)) (sym c.from_residual.ensures)
    (none_met c.args.self.now.spans c.start_in-start.result c.args.sort c.args.class c.args.address c.args.after c.args.self.now.own c.start_in-start.ensures c.first_stop.ensures.ordered
    (sym c.in_err-place.was ∙ c.first_stop.ensures.value))

pub returns-then-is_of-clause-value : goal.returns-then-is_of-clause-value
returns-then-is_of-clause-value g c =
    met c.args.self.now.spans c.start_in-start.result c.args.sort c.args.class c.args.address c.args.after c.args.self.now.own c.start_in-start.ensures c.first_stop.ensures.ordered (c.in_ok-place.place, c.in_ok-place.times)
    (sym c.in_ok-place.was ∙ c.first_stop.ensures.value) (sym c.if-is_of.ensures)

pub returns-then-is_of-clause-times : goal.returns-then-is_of-clause-times
returns-then-is_of-clause-times g c =
    sym (times_met c.args.self.now.spans c.start_in-start.result c.args.sort c.args.class c.args.address c.args.after c.args.self.now.own c.start_in-start.ensures c.first_stop.ensures.ordered (c.in_ok-place.place, c.in_ok-place.times)
    (sym c.in_ok-place.was ∙ c.first_stop.ensures.value))

pub returns-else-is_of-clause-value : goal.returns-else-is_of-clause-value
returns-else-is_of-clause-value g c =
    other_met c.args.self.now.spans c.start_in-start.result c.args.sort c.args.class c.args.address c.args.after c.args.self.now.own c.start_in-start.ensures c.first_stop.ensures.ordered (c.in_ok-place.place, c.in_ok-place.times)
    (sym c.in_ok-place.was ∙ c.first_stop.ensures.value) (sym c.if-is_of.ensures)

use Rattle.std.proofs.Common.{◌≡◌, ◌∙◌, true, false, sym, ap, cond}
use Rattle.std.specs.Prelude.{Some}
use Rattle.std.specs.Ordering.{is_lt}
use Rattle.span_index.specs.Order.{is_below}
use Rattle.span_index.specs.Places.{lesser}
use Rattle.span_index.proofs.meeting.lesser.Goals as goal

pub returns-then-is_lt : goal.returns-then-is_lt
unfolding is_below
returns-then-is_lt c =
    let below : is_below c.in-Some-Some.second.0 c.in-Some-Some.first.0 ≡ true = ap is_lt (sym c.cmp.ensures) ∙ sym c.is_lt.ensures ∙ c.if-is_lt.true in
    let both : lesser c.args.one c.args.other ≡ lesser (Some c.in-Some-Some.first) (Some c.in-Some-Some.second) = ap (λ x. lesser x c.args.other) c.in-Some-Some.is-0 ∙ ap (lesser (Some c.in-Some-Some.first)) c.in-Some-Some.is-1 in
    c.in-Some-Some.is-1 ∙ sym (both ∙ ap (λ b. cond b (Some c.in-Some-Some.second) (Some c.in-Some-Some.first)) below)

pub returns-else-is_lt : goal.returns-else-is_lt
unfolding is_below
returns-else-is_lt c =
    let below : is_below c.in-Some-Some.second.0 c.in-Some-Some.first.0 ≡ false = ap is_lt (sym c.cmp.ensures) ∙ sym c.is_lt.ensures ∙ c.if-is_lt.false in
    let both : lesser c.args.one c.args.other ≡ lesser (Some c.in-Some-Some.first) (Some c.in-Some-Some.second) = ap (λ x. lesser x c.args.other) c.in-Some-Some.is-0 ∙ ap (lesser (Some c.in-Some-Some.first)) c.in-Some-Some.is-1 in
    c.in-Some-Some.is-0 ∙ sym (both ∙ ap (λ b. cond b (Some c.in-Some-Some.second) (Some c.in-Some-Some.first)) below)

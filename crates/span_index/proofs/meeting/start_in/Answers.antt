use Rattle.std.proofs.Common.{◌≡◌, ◌∙◌, ◌-◌, ◌*◌, ◌^◌, sym, ap, subst, arith}
use Rattle.std.specs.declared.ops.Bound.TheVariants.{Excluded}
use Rattle.span_index.specs.Places.{StartsClass}
use Rattle.span_index.specs.Spans.{is_above}
use Rattle.span_index.proofs.MeetingLaws.{above_low, shift_is, starts_after, starts_low}
use Rattle.span_index.proofs.meeting.start_in.Goals as goal

-- src/meeting.rt:121:1
pub returns-in-Some : goal.returns-in-Some
returns-in-Some c =
    subst (λ a. StartsClass c.args.sort c.args.class c.args.address a (Excluded (record { sort = c.args.sort; class = c.args.class; span = c.in-Some.span }))) (sym c.in-Some.is)
    (starts_after c.args.sort c.args.class c.args.address c.in-Some.span)

-- src/meeting.rt:121:1
pub returns-in_default : goal.returns-in_default
returns-in_default c =
    let low : c.saturating_sub-low.result ≡ c.args.address - 2 ^ c.args.class * 4096 = c.saturating_sub-low.ensures ∙ ap (λ x. c.args.address - x * 4096) (shift_is c.args.class c.requires) in
    starts_low c.args.sort c.args.class c.args.address c.saturating_sub-low.result c.args.after (omega arith) low
    (λ s first. ap (λ a. is_above a s) c.in-Some.is ∙ above_low c.saturating_sub-low.result c.in-Some.span s c.if-span-low.false first)

-- src/meeting.rt:121:1
pub returns-in_default-2 : goal.returns-in_default-2
returns-in_default-2 c =
    let low : c.saturating_sub-low.result ≡ c.args.address - 2 ^ c.args.class * 4096 = c.saturating_sub-low.ensures ∙ ap (λ x. c.args.address - x * 4096) (shift_is c.args.class c.requires) in
    starts_low c.args.sort c.args.class c.args.address c.saturating_sub-low.result c.args.after (omega arith) low
    (λ s first. ap (λ a. is_above a s) c.in_default.is)

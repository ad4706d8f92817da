use Rattle.std.proofs.Common.{ap, arith, refl, ◌∙◌}
use Rattle.ledger_keys.specs.Kept.{sums_at}
use Rattle.ledger_maps.proofs.PagesLaws.{zero_all}
use Rattle.ledger_maps.proofs.page.Page.is_zero.Goals as goal

-- one before the end is not
pub returns-in-loop-slot : goal.returns-in-loop-slot
returns-in-loop-slot c = (
  λ is. absurd (cc is),
  λ zeros. absurd (cc (c.is_zero.ensures.1 (λ n. ap (λ o. sums_at o n) c.in-Some.ensures ∙ zeros c.loop-slot.slot n), c.if-not-is_zero.true)),
)

pub returns : goal.returns
returns c = (
  λ is. zero_all c.args.self.now.slots.items c.args.self.now.whole (λ i within. c.loop-slot.invariant i (omega (arith, within, c.loop-slot-test.false))),
  λ zeros. refl,
)

use Rattle.std.proofs.Common.{ap, sym, ◌∙◌}
use Rattle.ledger_keys.specs.Kept.{sums_at}
use Rattle.ledger_index.proofs.LedgerLaws.{at_seat, at_unpaged}
use Rattle.ledger_index.proofs.ledger.LedgerIndex.totals_of.Goals as goal

pub returns-in_default : goal.returns-in_default
returns-in_default g c = λ n. c.totals_of.ensures n ∙ sym (at_unpaged c.args.self.now c.args.account.now (sym c.of.ensures.seat ∙ c.in_default.is) n)

pub returns-in-Some-kept : goal.returns-in-Some-kept
returns-in-Some-kept g c = λ n.
    c.totals.ensures n ∙ ap (λ o. sums_at o n) c.in-Some-kept.ensures
    ∙ sym (at_seat c.args.self.now c.args.account.now c.in-Some.seat (sym c.in-Some.ensures.seat) n)

pub returns-in-None : goal.returns-in-None
returns-in-None g c = λ n.
    c.zero.ensures n ∙ ap (λ o. sums_at o n) c.in-None.ensures
    ∙ sym (at_seat c.args.self.now c.args.account.now c.in-Some.seat (sym c.in-Some.ensures.seat) n)

use Rattle.std.proofs.Common.{ap, ◌∙◌}
use Rattle.ledger_keys.specs.Kept.{sums_at}
use Rattle.ledger_index.specs.Singles.{sums_of}
use Rattle.ledger_index.proofs.singles.Singles.totals_of.Goals as goal

pub returns-in-Some : goal.returns-in-Some
unfolding sums_of
returns-in-Some c = λ n. c.totals.ensures n ∙ ap (λ o. sums_at o n) c.in-Some.ensures

pub returns-in-None : goal.returns-in-None
unfolding sums_of
returns-in-None c = λ n. c.zero.ensures n ∙ ap (λ o. sums_at o n) c.in-None.ensures

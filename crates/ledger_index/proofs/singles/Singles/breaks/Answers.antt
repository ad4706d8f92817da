use Rattle.std.proofs.Common.{ap, sym, ◌∙◌}
use Rattle.accounts.proofs.First.{unposted}
use Rattle.accounts.specs.Broken.{is_broken}
use Rattle.ledger_keys.specs.Kept.{sums_at}
use Rattle.ledger_index.specs.Singles.{sums_of}
use Rattle.ledger_index.proofs.singles.Singles.breaks.Goals as goal

pub returns-in-Some : goal.returns-in-Some
unfolding sums_of
returns-in-Some c = c.is_broken.ensures ∙ ap (λ o. is_broken c.args.account.now (sums_at o)) c.in-Some.ensures

pub returns-in-None : goal.returns-in-None
unfolding sums_of
returns-in-None c = sym (unposted c.args.account.now) ∙ ap (λ o. is_broken c.args.account.now (sums_at o)) c.in-None.ensures

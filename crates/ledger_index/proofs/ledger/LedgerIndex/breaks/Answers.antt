use Rattle.std.proofs.Common.{ap, sym, ◌∙◌}
use Rattle.std.proofs.Math.Path.{fun_ext}
use Rattle.accounts.proofs.First.{unposted}
use Rattle.accounts.specs.Broken.{is_broken}
use Rattle.ledger_keys.specs.Kept.{sums_at}
use Rattle.ledger_index.proofs.LedgerLaws.{at_seat, at_unpaged}
use Rattle.ledger_index.proofs.ledger.LedgerIndex.breaks.Goals as goal

-- it has no seat
pub returns-in_default-clause-broken : goal.returns-in_default-clause-broken
returns-in_default-clause-broken g c =
    c.breaks.ensures
    ∙ ap (is_broken c.args.account.now) (fun_ext (λ n. sym (at_unpaged c.args.self.now c.args.account.now (sym c.of.ensures.seat ∙ c.in_default.is) n)))

pub returns-in-Some-kept-clause-broken : goal.returns-in-Some-kept-clause-broken
returns-in-Some-kept-clause-broken g c =
    c.is_broken.ensures
    ∙ ap (λ o. is_broken c.args.account.now (sums_at o)) c.in-Some-kept.ensures
    ∙ ap (is_broken c.args.account.now) (fun_ext (λ n. sym (at_seat c.args.self.now c.args.account.now c.in-Some.seat (sym c.in-Some.ensures.seat) n)))

pub returns-in-None-clause-broken : goal.returns-in-None-clause-broken
returns-in-None-clause-broken g c =
    sym (unposted c.args.account.now)
    ∙ ap (λ o. is_broken c.args.account.now (sums_at o)) c.in-None.ensures
    ∙ ap (is_broken c.args.account.now) (fun_ext (λ n. sym (at_seat c.args.self.now c.args.account.now c.in-Some.seat (sym c.in-Some.ensures.seat) n)))

use Rattle.std.proofs.Common.{ap, sym, ◌∙◌, subst}
use Rattle.accounts.specs.Broken.{is_broken}
use Rattle.accounts.specs.Least.{IsLeastBroken}
use Rattle.accounts.specs.Tally.{sums_in}
use Rattle.accounts.proofs.First.{first_broken, first_here, first_is_least, first_later}
use Rattle.accounts.proofs.tally.Tally.least_broken.Goals as goal

pub loop-account-init : goal.loop-account-init
loop-account-init c = ap first_broken c.into_iter-account-iterator.ensures.into_iter_gives.0

pub returns-then-broken : goal.returns-then-broken
returns-then-broken c =
    subst (IsLeastBroken (λ a. is_broken a (sums_in c.args.self.now a)))
    (sym c.loop-account.invariant
    ∙ ap first_broken c.in-Some.ensures.steps
    ∙ first_here (c.in-Some.account.now, c.in-Some.totals.now) c.next.new.self (sym c.broken.ensures ∙ c.if-broken.true))
    (first_is_least c.args.self.now.entries c.into_iter-account-iterator.ensures.into_iter_gives.5)

pub loop-account-preserved : goal.loop-account-preserved
loop-account-preserved c =
    sym (first_later (c.in-Some.account.now, c.in-Some.totals.now) c.next.new.self (sym c.broken.ensures ∙ c.if-broken.false))
    ∙ ap first_broken (sym c.in-Some.ensures.steps)
    ∙ c.loop-account.invariant

pub returns : goal.returns
returns c =
    subst (IsLeastBroken (λ a. is_broken a (sums_in c.args.self.now a)))
    (sym c.loop-account.invariant ∙ ap first_broken c.in-None.ensures.steps.0)
    (first_is_least c.args.self.now.entries c.into_iter-account-iterator.ensures.into_iter_gives.5)

use Rattle.std.proofs.Common.{◌∙◌, sym}
use Rattle.accounts.specs.Sums.{sum_in}
use Rattle.accounts.specs.Tally.{with_amount}
use Rattle.accounts.proofs.Kept.{alike_kept, cancelled_kept}
use Rattle.accounts.proofs.totals.Totals.add.Goals as goal

pub returns-then-balances : goal.returns-then-balances
returns-then-balances c =
    cancelled_kept c.args.kind _ (sum_in c.raise.new.self) (with_amount (sum_in c.args.self.now) c.args.field c.args.amount)
    (sym c.balances.ensures ∙ c.if-balances.true) c.cancel.ensures c.in_ok-raise.ensures.ok

pub returns-else-balances : goal.returns-else-balances
returns-else-balances c =
    alike_kept c.args.kind _ (with_amount (sum_in c.args.self.now) c.args.field c.args.amount) c.in_ok-raise.ensures.ok

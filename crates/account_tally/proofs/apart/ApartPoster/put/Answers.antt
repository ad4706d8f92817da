use Rattle.accounts.proofs.Apart.{adds_listed}
use Rattle.account_tally.specs.Apart.{sums_apart}
use Rattle.account_tally.proofs.ShownSums.{on_ok}
use Rattle.account_tally.proofs.apart.ApartPoster.put.Goals as goal

pub returns : goal.returns
returns c =
    record { sums = on_ok c.push.result c.push.ensures.ok (λ is. adds_listed (sums_apart c.args.self.now) c.args.self.now.waiting c.push.new.self _ is) }

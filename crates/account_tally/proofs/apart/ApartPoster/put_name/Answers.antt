use Rattle.accounts.proofs.Apart.{adds_listed}
use Rattle.account_tally.specs.Apart.{sums_apart}
use Rattle.account_tally.proofs.ShownSums.{on_ok}
use Rattle.account_tally.proofs.apart.ApartPoster.put_name.Goals as goal

pub returns : goal.returns
returns c =
    record { sums = on_ok c.put_name.result c.put_name.ensures.all (λ is. adds_listed (sums_apart c.args.self.now) c.args.self.now.waiting c.put_name.new.self _ is) }

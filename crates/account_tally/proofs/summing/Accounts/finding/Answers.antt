use Rattle.std.proofs.Common.{◌∙◌}
use Rattle.std.specs.Option.{option_copied}
use Rattle.accounts.specs.Tally.{sums_in}
use Rattle.account_tally.specs.Apart.{sums_apart}
use Rattle.account_tally.specs.Kept.{summed_in}
use Rattle.account_tally.proofs.Decided.{decided, settled_least}
use Rattle.account_tally.proofs.summing.Accounts.finding.Goals as goal

pub returns : goal.returns
returns c = λ chunks nodesize records taken.
    c.least_finding.ensures
    ∙ decided chunks nodesize records (summed_in c.args.self.now) (option_copied c.least_broken-2.result) c.in_ok-sector.sector
    taken
    (λ ps is. settled_least (sums_in c.args.self.now.rest) (sums_in c.add_all.new.self) (sums_in c.settle.new.rest) (sums_apart c.args.self.now.apart)
    c.args.self.now.apart.waiting (option_copied c.least_broken-2.result) ps
    c.least_broken-2.ensures c.in_ok-settle.ensures c.in_ok-add_all.ensures.sums is)
    c.in_ok-sector.ensures

use Rattle.std.proofs.Common.{◌≡◌}
use Rattle.accounts.proofs.First.{first_broken}
use Rattle.accounts.proofs.tally.Tally.least_broken.Given as goal

abbrev pub invariant-loop-account : goal.invariant-loop-account
invariant-loop-account l = first_broken l.account-iterator ≡ first_broken l.self.entries.entries

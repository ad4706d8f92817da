use Rattle.std.proofs.Common.{◌≡◌, length}
use Rattle.accounts.specs.Tally.{sums_in, with_postings}
use Rattle.accounts.proofs.tally.Tally.add_all.Given as goal

abbrev pub invariant-loop-posting : goal.invariant-loop-posting
invariant-loop-posting l = with_postings (sums_in l.self) l.postings ≡ with_postings (sums_in l.initial.self) l.initial.postings

abbrev pub decreases-loop-posting : goal.decreases-loop-posting
decreases-loop-posting l = length l.postings

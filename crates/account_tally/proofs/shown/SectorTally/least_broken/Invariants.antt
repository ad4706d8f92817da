use Rattle.std.proofs.Common.{◌≡◌, ℕ, length}
use Rattle.account_tally.specs.Kept.{free_in, sectors_in}
use Rattle.account_tally.proofs.shown.SectorTally.least_broken.Given as goal

-- what is shown and not yet added stands with what is added for all that was shown
abbrev pub invariant-loop-one : goal.invariant-loop-one
invariant-loop-one l = record {
  free : free_in l.self.free ≡ free_in l.fn.self.free;
  sums : (address field : ℕ) → sectors_in l.self (free_in l.fn.self.free) address field ≡ sectors_in l.fn.self (free_in l.fn.self.free) address field;
}

abbrev pub decreases-loop-one : goal.decreases-loop-one
decreases-loop-one l = length l.self.shown.items

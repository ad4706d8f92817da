use Rattle.std.proofs.Common.{◌≡◌}
use Rattle.accounts.specs.Sums.{sum_in}
use Rattle.sector_runs.proofs.Sweep.{HaveRoom, IsSwept, sweep, zero_sums}
use Rattle.sector_runs.proofs.kept.Sectors.least_broken.Given as goal

-- the first broken edge of what is left is that of all
abbrev pub invariant-loop-address : goal.invariant-loop-address
invariant-loop-address l =
    (sweep (sum_in l.totals) l.address-iterator ≡ sweep zero_sums l.self.edges.entries)
    × IsSwept (sum_in l.totals) l.address-iterator
    × HaveRoom (sum_in l.totals) l.address-iterator

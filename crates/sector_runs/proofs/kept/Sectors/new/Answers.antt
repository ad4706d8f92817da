use Rattle.sector_runs.proofs.Below.{empty_sound, empty_sums}
use Rattle.sector_runs.proofs.kept.Sectors.new.Goals as goal

-- src/sectors.rt:22:5
pub invariant_of-result : goal.invariant_of-result
invariant_of-result c = record { sound = empty_sound c.new.result c.new.ensures.empty }

-- src/sectors.rt:22:5
pub returns : goal.returns
returns c = empty_sums _ c.new.ensures.empty

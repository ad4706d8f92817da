use Rattle.commit_laws.proofs.at_sectors.Runs.{runs_stay}
use Rattle.commit_laws.proofs.sectors.runs_law.Goals as goal

pub returns : goal.returns
returns c = runs_stay

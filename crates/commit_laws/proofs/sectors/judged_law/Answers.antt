use Rattle.commit_laws.proofs.at_sectors.Judged.{judged}
use Rattle.commit_laws.proofs.sectors.judged_law.Goals as goal

pub returns : goal.returns
returns c = judged

use Rattle.commit_laws.proofs.at_sectors.Posted.{sectors}
use Rattle.commit_laws.proofs.sectors.sectors_law.Goals as goal

pub returns : goal.returns
returns c = sectors

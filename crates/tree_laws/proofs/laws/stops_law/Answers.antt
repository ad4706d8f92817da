use Rattle.tree_laws.proofs.Stopping.{stopped}
use Rattle.tree_laws.proofs.laws.stops_law.Goals as goal

pub returns : goal.returns
returns c = stopped

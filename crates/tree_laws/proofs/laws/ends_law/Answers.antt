use Rattle.tree_laws.proofs.EndsTold.{ends}
use Rattle.tree_laws.proofs.laws.ends_law.Goals as goal

pub returns : goal.returns
returns c = ends

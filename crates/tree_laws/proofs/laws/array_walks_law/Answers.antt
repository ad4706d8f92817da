use Rattle.tree_laws.proofs.ArrayWalks.{array_walks}
use Rattle.tree_laws.proofs.laws.array_walks_law.Goals as goal

pub returns : goal.returns
returns c = array_walks

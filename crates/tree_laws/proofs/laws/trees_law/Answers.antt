use Rattle.tree_laws.proofs.Treed.{trees_walk}
use Rattle.tree_laws.proofs.laws.trees_law.Goals as goal

pub returns : goal.returns
returns c = trees_walk

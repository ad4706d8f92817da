use Rattle.tree_laws.proofs.MarkedTrees.{moves_image}
use Rattle.tree_laws.proofs.laws.moves_law.Goals as goal

pub returns : goal.returns
returns c = moves_image

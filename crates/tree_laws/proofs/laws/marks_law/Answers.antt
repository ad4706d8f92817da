use Rattle.tree_laws.proofs.MarkedTrees.{marks_image}
use Rattle.tree_laws.proofs.laws.marks_law.Goals as goal

pub returns : goal.returns
returns c = marks_image

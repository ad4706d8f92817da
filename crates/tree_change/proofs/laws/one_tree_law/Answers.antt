use Rattle.tree_change.proofs.EachTree.{one_tree}
use Rattle.tree_change.proofs.laws.one_tree_law.Goals as goal

pub returns : goal.returns
returns c = one_tree

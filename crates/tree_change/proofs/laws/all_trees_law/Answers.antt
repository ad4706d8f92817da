use Rattle.tree_change.proofs.AllTrees.{all_trees}
use Rattle.tree_change.proofs.EachTree.{one_tree}
use Rattle.tree_change.proofs.laws.all_trees_law.Goals as goal

pub returns : goal.returns
returns c = all_trees one_tree

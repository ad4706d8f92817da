use Rattle.tree_change.proofs.EachTree.{one_tree}
use Rattle.tree_change.proofs.Named.{named}
use Rattle.tree_change.proofs.laws.named_law.Goals as goal

pub returns : goal.returns
returns c = named one_tree

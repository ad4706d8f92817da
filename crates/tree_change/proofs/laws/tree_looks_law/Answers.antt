use Rattle.tree_change.proofs.TreeLooks.{tree_looks}
use Rattle.tree_change.proofs.laws.tree_looks_law.Goals as goal

pub returns : goal.returns
returns c = tree_looks

use Rattle.tree_change.proofs.TreeLooks.{gone_looks}
use Rattle.tree_change.proofs.laws.gone_looks_law.Goals as goal

pub returns : goal.returns
returns c = gone_looks

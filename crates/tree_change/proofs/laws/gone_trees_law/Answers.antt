use Rattle.tree_change.proofs.Gone.{gone}
use Rattle.tree_change.proofs.laws.gone_trees_law.Goals as goal

pub returns : goal.returns
returns c = gone

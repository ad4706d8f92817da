use Rattle.tree_laws.proofs.Kept.{keeps_tree}
use Rattle.tree_laws.proofs.laws.kept_tree_law.Goals as goal

pub returns : goal.returns
returns c = keeps_tree

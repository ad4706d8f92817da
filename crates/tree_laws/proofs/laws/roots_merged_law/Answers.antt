use Rattle.tree_laws.proofs.MergedLists.{roots_merge}
use Rattle.tree_laws.proofs.laws.roots_merged_law.Goals as goal

pub returns : goal.returns
returns c = roots_merge

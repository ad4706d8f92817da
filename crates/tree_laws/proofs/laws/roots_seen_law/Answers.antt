use Rattle.tree_laws.proofs.MergedLists.{roots_are_seen}
use Rattle.tree_laws.proofs.laws.roots_seen_law.Goals as goal

pub returns : goal.returns
returns c = roots_are_seen

use Rattle.tree_laws.proofs.MergedLists.{lists_seen}
use Rattle.tree_laws.proofs.laws.lists_seen_law.Goals as goal

pub returns : goal.returns
returns c = lists_seen

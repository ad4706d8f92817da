use Rattle.tree_laws.proofs.MergedLists.{map_seen}
use Rattle.tree_laws.proofs.laws.map_seen_law.Goals as goal

pub returns : goal.returns
returns c = map_seen

use Rattle.tree_laws.proofs.Treed.{chunk_tree}
use Rattle.tree_laws.proofs.laws.chunk_tree_law.Goals as goal

pub returns : goal.returns
returns c = chunk_tree

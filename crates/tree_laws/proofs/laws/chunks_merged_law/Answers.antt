use Rattle.tree_laws.proofs.MergedLists.{chunks_merge}
use Rattle.tree_laws.proofs.laws.chunks_merged_law.Goals as goal

pub returns : goal.returns
returns c = chunks_merge

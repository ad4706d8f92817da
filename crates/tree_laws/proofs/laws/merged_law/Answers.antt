use Rattle.tree_laws.proofs.Merged.{merges}
use Rattle.tree_laws.proofs.laws.merged_law.Goals as goal

pub returns : goal.returns
returns c = merges

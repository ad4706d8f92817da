use Rattle.tree_laws.proofs.OldSide.{old_side}
use Rattle.tree_laws.proofs.laws.old_side_law.Goals as goal

pub returns : goal.returns
returns c = old_side

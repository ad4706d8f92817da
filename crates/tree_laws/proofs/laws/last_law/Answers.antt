use Rattle.tree_laws.proofs.KeptLast.{lasts}
use Rattle.tree_laws.proofs.laws.last_law.Goals as goal

pub returns : goal.returns
returns c = lasts

use Rattle.tree_laws.proofs.Shifting.{shifts}
use Rattle.tree_laws.proofs.laws.shifted_law.Goals as goal

pub returns : goal.returns
returns c = shifts

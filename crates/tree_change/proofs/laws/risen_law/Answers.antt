use Rattle.tree_change.proofs.RisenAll.{risen_law}
use Rattle.tree_change.proofs.laws.risen_law.Goals as goal

pub returns : goal.returns
returns c = risen_law

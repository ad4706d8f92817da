use Rattle.tree_laws.proofs.OldSupers.{give_alike}
use Rattle.tree_laws.proofs.laws.supers_law.Goals as goal

pub returns : goal.returns
returns c = give_alike

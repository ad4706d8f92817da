use Rattle.tree_laws.proofs.ArrayApart.{array_apart}
use Rattle.tree_laws.proofs.laws.array_apart_law.Goals as goal

pub returns : goal.returns
returns c = array_apart

use Rattle.tree_laws.proofs.ArrayPlaces.{as_by_all}
use Rattle.tree_laws.proofs.laws.array_law.Goals as goal

pub returns : goal.returns
returns c = as_by_all

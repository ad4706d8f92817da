use Rattle.tree_laws.proofs.Leading.{stops_rest}
use Rattle.tree_laws.proofs.laws.stops_rest_law.Goals as goal

pub returns : goal.returns
returns c = stops_rest

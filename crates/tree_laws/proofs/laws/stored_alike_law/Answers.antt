use Rattle.tree_laws.proofs.Images.{stored_alike}
use Rattle.tree_laws.proofs.laws.stored_alike_law.Goals as goal

pub returns : goal.returns
returns c = stored_alike

use Rattle.tree_laws.proofs.Narrow.{narrow}
use Rattle.tree_laws.proofs.laws.narrow_law.Goals as goal

pub returns : goal.returns
returns c = narrow

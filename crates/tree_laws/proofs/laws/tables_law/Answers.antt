use Rattle.tree_laws.proofs.Forest.{tables_stand}
use Rattle.tree_laws.proofs.laws.tables_law.Goals as goal

pub returns : goal.returns
returns c = tables_stand

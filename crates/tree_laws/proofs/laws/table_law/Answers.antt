use Rattle.tree_laws.proofs.Rooted.{table_stands}
use Rattle.tree_laws.proofs.laws.table_law.Goals as goal

pub returns : goal.returns
returns c = table_stands

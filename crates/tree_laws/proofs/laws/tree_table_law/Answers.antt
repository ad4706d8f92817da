use Rattle.tree_laws.proofs.Forest.{tree_table}
use Rattle.tree_laws.proofs.laws.tree_table_law.Goals as goal

pub returns : goal.returns
returns c = tree_table

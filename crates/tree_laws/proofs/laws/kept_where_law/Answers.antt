use Rattle.tree_laws.proofs.Merged.{kept_where_just}
use Rattle.tree_laws.proofs.laws.kept_where_law.Goals as goal

pub returns : goal.returns
returns c = kept_where_just

use Rattle.tree_laws.proofs.ArrayKept.{kept_by_array}
use Rattle.tree_laws.proofs.laws.array_kept_law.Goals as goal

pub returns : goal.returns
returns c = kept_by_array

use Rattle.tree_laws.proofs.Trails.{walk_is_own}
use Rattle.tree_laws.proofs.laws.walk_is_own.Goals as goal

pub returns : goal.returns
returns c = walk_is_own

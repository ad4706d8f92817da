use Rattle.tree_laws.proofs.OldTells.{tells_shared}
use Rattle.tree_laws.proofs.laws.tells_law.Goals as goal

pub returns : goal.returns
returns c = tells_shared

use Rattle.tree_laws.proofs.KnownShared.{knows_shared}
use Rattle.tree_laws.proofs.laws.known_shared_law.Goals as goal

pub returns : goal.returns
returns c = knows_shared

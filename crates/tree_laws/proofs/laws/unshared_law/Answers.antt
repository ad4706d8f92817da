use Rattle.tree_laws.proofs.OldBlocks.{unshared_are}
use Rattle.tree_laws.proofs.laws.unshared_law.Goals as goal

pub returns : goal.returns
returns c = unshared_are

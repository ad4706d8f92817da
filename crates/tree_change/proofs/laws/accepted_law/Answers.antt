use Rattle.tree_change.proofs.Accepting.{accepted}
use Rattle.tree_change.proofs.laws.accepted_law.Goals as goal

pub returns : goal.returns
returns c = accepted

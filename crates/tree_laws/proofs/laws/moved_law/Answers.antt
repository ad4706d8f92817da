use Rattle.tree_laws.proofs.Meeting.{shows}
use Rattle.tree_laws.proofs.laws.moved_law.Goals as goal

pub returns : goal.returns
returns c = shows

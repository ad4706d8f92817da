use Rattle.tree_laws.proofs.Climbing.{marks}
use Rattle.tree_laws.proofs.laws.marking_law.Goals as goal

pub returns : goal.returns
returns c = marks

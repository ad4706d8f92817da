use Rattle.tree_laws.proofs.Sharing.{keeps}
use Rattle.tree_laws.proofs.laws.keeping_law.Goals as goal

pub returns : goal.returns
returns c = keeps

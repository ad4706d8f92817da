use Rattle.tree_laws.proofs.OldTells.{gone}
use Rattle.tree_laws.proofs.laws.gone_law.Goals as goal

pub returns : goal.returns
returns c = gone

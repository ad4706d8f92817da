use Rattle.tree_laws.proofs.Leading.{leading}
use Rattle.tree_laws.proofs.laws.leads_law.Goals as goal

pub returns : goal.returns
returns c = leading

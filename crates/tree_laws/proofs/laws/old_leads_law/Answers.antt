use Rattle.tree_laws.proofs.Leading.{old_leading}
use Rattle.tree_laws.proofs.laws.old_leads_law.Goals as goal

pub returns : goal.returns
returns c = old_leading

use Rattle.tree_laws.proofs.Leading.{among_leading}
use Rattle.tree_laws.proofs.laws.among_leads_law.Goals as goal

pub returns : goal.returns
returns c = among_leading

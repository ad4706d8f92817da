use Rattle.tree_laws.proofs.FewVisits.{few_visits}
use Rattle.tree_laws.proofs.laws.visits_law.Goals as goal

pub returns : goal.returns
returns c = few_visits

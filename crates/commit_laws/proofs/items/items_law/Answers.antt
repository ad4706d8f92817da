use Rattle.commit_laws.proofs.accepted.Items.{items_stand}
use Rattle.commit_laws.proofs.items.items_law.Goals as goal

pub returns : goal.returns
returns c = items_stand

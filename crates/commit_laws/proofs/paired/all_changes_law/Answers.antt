use Rattle.commit_laws.proofs.named_items.All.{all_change}
use Rattle.commit_laws.proofs.paired.all_changes_law.Goals as goal

pub returns : goal.returns
returns c = all_change

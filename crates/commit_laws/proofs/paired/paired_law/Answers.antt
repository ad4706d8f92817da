use Rattle.commit_laws.proofs.named_items.Paired.{paired}
use Rattle.commit_laws.proofs.paired.paired_law.Goals as goal

pub returns : goal.returns
returns c = paired

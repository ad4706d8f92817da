use Rattle.commit_laws.proofs.named_items.Found.{found_of}
use Rattle.commit_laws.proofs.paired.found_law.Goals as goal

pub returns : goal.returns
returns c = found_of

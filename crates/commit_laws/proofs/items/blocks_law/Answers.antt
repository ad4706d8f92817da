use Rattle.commit_laws.proofs.accepted.Blocks.{own_names}
use Rattle.commit_laws.proofs.items.blocks_law.Goals as goal

pub returns : goal.returns
returns c = own_names

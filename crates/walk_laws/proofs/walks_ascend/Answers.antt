use Rattle.walk_laws.proofs.Trees.{walk_ascends}
use Rattle.walk_laws.proofs.walks_ascend.Goals as goal

pub returns : goal.returns
returns c = walk_ascends

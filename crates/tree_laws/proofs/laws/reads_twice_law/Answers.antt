use Rattle.tree_laws.proofs.OldBlocks.{reads_twice}
use Rattle.tree_laws.proofs.laws.reads_twice_law.Goals as goal

pub returns : goal.returns
returns c = reads_twice

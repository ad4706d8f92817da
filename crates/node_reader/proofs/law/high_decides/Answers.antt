use Rattle.node_reader.proofs.High.{high_decides}
use Rattle.node_reader.proofs.law.high_decides.Goals as goal

pub returns : goal.returns
returns c = high_decides

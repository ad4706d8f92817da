use Rattle.records.proofs.Alike.{leaves}
use Rattle.records.proofs.law.high_leaves.Goals as goal

pub returns : goal.returns
returns c = leaves

use Rattle.commit_laws.proofs.Records.{hold_same}
use Rattle.commit_laws.proofs.same.records_law.Goals as goal

pub returns : goal.returns
returns c = hold_same

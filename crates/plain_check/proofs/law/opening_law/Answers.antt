use Rattle.plain_check.proofs.Opening.{opens}
use Rattle.plain_check.proofs.law.opening_law.Goals as goal

pub returns : goal.returns
returns c = opens

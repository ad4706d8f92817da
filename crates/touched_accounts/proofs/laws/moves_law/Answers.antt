use Rattle.touched_accounts.proofs.Moved.{moves}
use Rattle.touched_accounts.proofs.laws.moves_law.Goals as goal

pub returns : goal.returns
returns c = moves

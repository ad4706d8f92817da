use Rattle.touched_accounts.proofs.LeastTouched.{touched}
use Rattle.touched_accounts.proofs.laws.touched_law.Goals as goal

pub returns : goal.returns
returns c = touched

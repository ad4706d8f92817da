use Rattle.commit_laws.proofs.Held.{holds}
use Rattle.commit_laws.proofs.same.held_law.Goals as goal

pub returns : goal.returns
returns c = holds

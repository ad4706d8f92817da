use Rattle.commit_judge.proofs.judgements.Stops.{safe}
use Rattle.commit_judge.proofs.laws.stop_law.Goals as goal

pub returns : goal.returns
returns c = safe c.stop_law.ensures

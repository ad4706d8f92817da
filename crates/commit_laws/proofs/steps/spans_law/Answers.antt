use Rattle.commit_laws.proofs.steps_between.Steps.{spans}
use Rattle.commit_laws.proofs.steps.spans_law.Goals as goal

pub returns : goal.returns
returns c = spans

use Rattle.commit_laws.proofs.steps_between.Whole.{whole_step}
use Rattle.commit_laws.proofs.steps.whole_step_law.Goals as goal

pub returns : goal.returns
returns c = whole_step

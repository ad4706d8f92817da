use Rattle.commit_laws.proofs.named_items.Paired.{paired}
use Rattle.commit_laws.proofs.steps_between.Step.{steps}
use Rattle.commit_laws.proofs.steps.step_law.Goals as goal

pub returns : goal.returns
returns c = steps paired

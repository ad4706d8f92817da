use Rattle.commit_laws.proofs.steps_between.Steps.{posts}
use Rattle.commit_laws.proofs.steps.posts_law.Goals as goal

pub returns : goal.returns
returns c = posts

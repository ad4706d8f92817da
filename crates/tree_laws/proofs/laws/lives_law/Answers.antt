use Rattle.tree_laws.proofs.Lives.{lives_are}
use Rattle.tree_laws.proofs.laws.lives_law.Goals as goal

pub returns : goal.returns
returns c = lives_are

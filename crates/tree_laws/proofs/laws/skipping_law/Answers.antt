use Rattle.tree_laws.proofs.Skipping.{skips}
use Rattle.tree_laws.proofs.laws.skipping_law.Goals as goal

pub returns : goal.returns
returns c = skips

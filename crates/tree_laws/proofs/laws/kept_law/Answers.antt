use Rattle.tree_laws.proofs.KeptImage.{keeps_image}
use Rattle.tree_laws.proofs.laws.kept_law.Goals as goal

pub returns : goal.returns
returns c = keeps_image

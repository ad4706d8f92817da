use Rattle.tree_laws.proofs.Images.{read_alike}
use Rattle.tree_laws.proofs.laws.read_alike_law.Goals as goal

pub returns : goal.returns
returns c = read_alike

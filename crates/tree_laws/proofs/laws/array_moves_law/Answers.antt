use Rattle.tree_laws.proofs.ArrayMoves.{array_moves}
use Rattle.tree_laws.proofs.laws.array_moves_law.Goals as goal

pub returns : goal.returns
returns c = array_moves

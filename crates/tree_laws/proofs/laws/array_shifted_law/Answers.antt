use Rattle.tree_laws.proofs.ArrayWalks.{array_shifts}
use Rattle.tree_laws.proofs.laws.array_shifted_law.Goals as goal

pub returns : goal.returns
returns c = array_shifts

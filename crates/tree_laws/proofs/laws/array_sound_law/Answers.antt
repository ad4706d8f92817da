use Rattle.tree_laws.proofs.ArrayWalks.{array_sound}
use Rattle.tree_laws.proofs.laws.array_sound_law.Goals as goal

pub returns : goal.returns
returns c = array_sound

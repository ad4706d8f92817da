use Rattle.lookup_bounds.proofs.HousedWhole.{housed}
use Rattle.lookup_bounds.proofs.housed.housed_law.Goals as goal

pub returns : goal.returns
returns c = housed c.held_law.ensures c.items_law.ensures

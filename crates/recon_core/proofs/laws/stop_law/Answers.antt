use Rattle.recon_core.proofs.Safe.{stops_are_safe}
use Rattle.recon_core.proofs.laws.stop_law.Goals as goal

pub returns : goal.returns
returns c = stops_are_safe c.stop_law.ensures c.known_law.ensures

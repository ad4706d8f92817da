use Rattle.commit_laws.proofs.other_images.Stops.{stopped}
use Rattle.commit_laws.proofs.stops.stop_law.Goals as goal

pub returns : goal.returns
returns c = stopped

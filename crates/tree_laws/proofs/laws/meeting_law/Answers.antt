use Rattle.tree_laws.proofs.MeetingStops.{meets}
use Rattle.tree_laws.proofs.laws.meeting_law.Goals as goal

pub returns : goal.returns
returns c = meets

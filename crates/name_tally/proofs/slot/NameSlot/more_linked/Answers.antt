use Rattle.name_tally.proofs.Claims.{keeps_nothing}
use Rattle.name_tally.proofs.Sums.{moved_linked}
use Rattle.name_tally.proofs.slot.NameSlot.more_linked.Goals as goal

pub returns-in_default : goal.returns-in_default
returns-in_default c =
    keeps_nothing _

pub returns : goal.returns
returns c =
    moved_linked c.args.self.now c.in-Some.listed c.in-Some.linked c.in-Some.ensures

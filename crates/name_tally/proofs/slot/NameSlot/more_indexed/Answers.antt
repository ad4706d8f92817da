use Rattle.std.proofs.Common.{arith}
use Rattle.name_tally.proofs.Claims.{keeps_nothing}
use Rattle.name_tally.proofs.Sums.{moved_indexed}
use Rattle.name_tally.proofs.slot.NameSlot.more_indexed.Goals as goal

pub returns-in_default : goal.returns-in_default
returns-in_default c =
    keeps_nothing _

pub returns-in_default-more : goal.returns-in_default-more
returns-in_default-more c =
    keeps_nothing _

pub returns-in_default-more-2 : goal.returns-in_default-more-2
returns-in_default-more-2 c =
    keeps_nothing _

pub returns : goal.returns
returns c =
    moved_indexed c.args.self.now c.in-Some-more.hashed c.in-Some-more.indexed c.in-Some-more-2.listed c.in-Some-more-2.linked
    c.in-Some.led (grind arith) c.in-Some-more.ensures c.in-Some-more-2.ensures

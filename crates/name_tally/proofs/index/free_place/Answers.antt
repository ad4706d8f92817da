use Rattle.std.proofs.Common.{◌∙◌, ap}
use Rattle.name_tally.specs.Names.{slots_sums}
use Rattle.name_tally.proofs.Sums.{slots_pushed}
use Rattle.name_tally.proofs.index.free_place.Goals as goal

pub returns : goal.returns
returns c =
    λ a n. ap (λ ss. slots_sums ss a n) c.in_ok-push.ensures.items ∙ slots_pushed c.args.slots.now.items c.free.result c.free.ensures a n

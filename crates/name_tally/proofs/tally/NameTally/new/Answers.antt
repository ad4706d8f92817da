use Rattle.std.proofs.Common.{◌∙◌, ap}
use Rattle.name_tally.specs.Names.{slots_sums}
use Rattle.name_tally.proofs.Sums.{no_sums}
use Rattle.name_tally.proofs.tally.NameTally.new.Goals as goal

pub returns : goal.returns
returns c =
    λ a n. ap (λ ss. slots_sums ss a n) c.new.ensures.items ∙ no_sums a n

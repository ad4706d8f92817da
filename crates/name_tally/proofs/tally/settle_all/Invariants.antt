use Rattle.std.proofs.Common.{drop}
use Rattle.accounts.specs.Tally.{sums_in}
use Rattle.name_tally.specs.Names.{slot_postings}
use Rattle.name_tally.proofs.Sums.{Posted}
use Rattle.name_tally.proofs.tally.settle_all.Given as goal

-- what is left comes with what was added to all
abbrev pub invariant-loop-slot : goal.invariant-loop-slot
invariant-loop-slot l =
    Posted slot_postings (sums_in l.fn.rest) (sums_in l.rest) (drop l.slot-index l.slots) l.slots

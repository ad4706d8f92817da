use Rattle.std.proofs.Common.{ap, arith}
use Rattle.ledger_maps.specs.Entries.{by_parts, count_in}
use Rattle.ledger_index.specs.Singles.{entries_of}
use Rattle.ledger_keys.specs.LongPlace as longer
use Rattle.ledger_keys.specs.Place.{is_same_place, part_of}
use Rattle.ledger_index.proofs.SinglesLaws.{none_of, sums_none}
use Rattle.ledger_index.proofs.singles.Singles.new.Goals as goal

pub returns-clause-sums : goal.returns-clause-sums
returns-clause-sums c = sums_none _ (none_of _ (λ p. ap (λ ps. by_parts is_same_place part_of ps p) c.new.ensures)
    (λ p. ap (λ ps. by_parts longer.is_same_long longer.part_of ps p) c.new-2.ensures) c.new-3.ensures.none)

pub returns-clause-none : goal.returns-clause-none
unfolding entries_of count_in
returns-clause-none c = omega (arith, ap count_in c.new.ensures, ap count_in c.new-2.ensures, c.new-3.ensures.empty)

use Rattle.std.proofs.Common.{ap, arith}
use Rattle.ledger_maps.specs.Entries.{count_in}
use Rattle.ledger_index.specs.Unpaged.{entries_of}
use Rattle.ledger_index.proofs.UnpagedLaws.{no_parts, sums_none}
use Rattle.ledger_index.proofs.unpaged.Unpaged.new.Goals as goal

pub returns-clause-sums : goal.returns-clause-sums
returns-clause-sums c = sums_none _ (no_parts c.new.result.parts.items c.new.ensures) c.new-2.ensures.sums

pub returns-clause-none : goal.returns-clause-none
unfolding count_in entries_of
returns-clause-none c = omega (arith, ap count_in c.new.ensures, c.new-2.ensures.none)

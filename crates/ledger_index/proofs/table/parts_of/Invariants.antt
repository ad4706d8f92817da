use Rattle.ledger_maps.specs.Entries.{AreEmpty}
use Rattle.ledger_index.proofs.table.parts_of.Given as goal

-- no part has an entry
abbrev pub invariant-loop-number : goal.invariant-loop-number
invariant-loop-number g l = AreEmpty l.parts.items

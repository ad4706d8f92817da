use Rattle.ledger_index.proofs.LedgerLaws.{is_tidy, sums_none}
use Rattle.ledger_index.proofs.ledger.LedgerIndex.new.Goals as goal

pub returns-clause-sums : goal.returns-clause-sums
returns-clause-sums g c = sums_none _ c.new.ensures.none c.new-2.ensures.sums

pub returns-clause-entries : goal.returns-clause-entries
returns-clause-entries g c = is_tidy _

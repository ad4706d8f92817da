use Rattle.std.proofs.Common.{List, ◌∷◌}
use Rattle.ledger_maps.specs.declared.page.Page.{Page}
use Rattle.ledger_keys.specs.declared.seat.PageKey.{PageKey}
use Rattle.ledger_index.specs.Judged.{IsLeastBut}
use Rattle.ledger_index.specs.Ledger.{sums_of}
use Rattle.ledger_index.specs.Seated.{left_pages, left_slots}
use Rattle.ledger_index.proofs.ledger.LedgerIndex.least_of_page.Given as goal

-- the least of all but those that are judged later, and of those of the page from this slot on
abbrev pub invariant-loop-slot : goal.invariant-loop-slot
invariant-loop-slot g l =
    (rest : List (PageKey × Page)) → IsLeastBut (sums_of l.self) (left_pages ((l.key, l.page) ∷ rest)) l.fn.first
    → IsLeastBut (sums_of l.self) (left_slots rest l.key l.slot) l.least

use Rattle.std.proofs.Common.{◌≡◌, length}
use Rattle.indexmap.specs.IndexMap.{index_map_len}
use Rattle.accounts.specs.Broken.{is_broken}
use Rattle.accounts.specs.Least.{IsLeastBroken}
use Rattle.ledger_maps.specs.Entries.{by_key}
use Rattle.ledger_index.specs.Judged.{IsLeastBut}
use Rattle.ledger_index.specs.Ledger.{sums_of}
use Rattle.ledger_index.specs.Looks.{counted_times}
use Rattle.ledger_keys.specs.Seat.{is_same_page}
use Rattle.ledger_index.specs.Seated.{left_pages}
use Rattle.ledger_index.specs.Unpaged as unpaged
use Rattle.ledger_index.proofs.JudgedLaws.{Found}
use Rattle.ledger_index.proofs.ledger.LedgerIndex.least_seated.Given as goal

-- the least of all but those whose pages are left, each of which is one look more
abbrev pub invariant-loop-key : goal.invariant-loop-key
invariant-loop-key g l = record {
  least : IsLeastBroken (λ account. is_broken account (unpaged.sums_of l.self.unpaged account)) l.fn.first
      → IsLeastBut (sums_of l.self) (left_pages l.key-iterator) l.least;
  found : Found (by_key is_same_page l.self.pages.map) l.key-iterator;
  counts : counted_times (length l.key-iterator) l.steps ≡ counted_times (index_map_len l.self.pages.map) l.fn.steps;
}

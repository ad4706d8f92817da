use Rattle.std.proofs.Common.{◌≡◌, ◌+◌, ◌≤◌, [], length}
use Rattle.std.specs.BTreeMap.{btree_map_len}
use Rattle.ledger_maps.specs.Entries.{by_account}
use Rattle.ledger_index.specs.Judged.{IsLeastBut, is_later}
use Rattle.ledger_index.specs.Looks.{counted_times}
use Rattle.ledger_index.specs.Singles.{sums_of}
use Rattle.ledger_index.proofs.JudgedLaws.{Found}
use Rattle.ledger_index.proofs.singles.Singles.least_whole.Given as goal

-- the least of all but those whose entries are left, each of which is one look more
abbrev pub invariant-loop-account : goal.invariant-loop-account
invariant-loop-account g l = record {
  least : IsLeastBut (sums_of l.self) (is_later [] [] l.self.whole.entries.entries) l.fn.first
      → IsLeastBut (sums_of l.self) (is_later [] [] l.account-iterator) l.least;
  found : Found (by_account l.self.whole.entries) l.account-iterator;
  counts : counted_times (length l.account-iterator) l.steps ≡ counted_times (btree_map_len l.self.whole.entries) l.fn.steps;
  looks : l.steps + length l.account-iterator ≤ l.fn.steps + btree_map_len l.self.whole.entries;
}

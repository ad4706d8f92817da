use Rattle.std.proofs.Common.{◌≡◌, ◌+◌, ◌≤◌, drop}
use Rattle.std.specs.List.{AllByRecursion}
use Rattle.ledger_maps.specs.Entries.{Within, by_key, count_in, entries_in}
use Rattle.ledger_index.specs.Looks.{counted_times}
use Rattle.ledger_index.proofs.table.Table.least.Given as goal

-- the least of all but those whose entries are in the parts that are left, each of which is one look more
abbrev pub invariant-loop-part : goal.invariant-loop-part
invariant-loop-part g l = record {
  least : g.J.Judge.IsLeast l.judge (entries_in l.self.parts.items) l.fn.first → g.J.Judge.IsLeast l.judge (entries_in (drop l.part-index l.part-items)) l.least;
  within : AllByRecursion (λ part. Within (by_key g.K.PartialEq.eq part) (g.J.Judge.entry l.judge)) (drop l.part-index l.part-items);
  counts : counted_times (count_in (drop l.part-index l.part-items)) l.steps ≡ counted_times (count_in l.self.parts.items) l.fn.steps;
  looks : l.steps + count_in (drop l.part-index l.part-items) ≤ l.fn.steps + count_in l.self.parts.items;
}

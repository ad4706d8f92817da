use Rattle.std.proofs.Common.{◌≡◌, ◌+◌, ◌≤◌, List, ◌++◌, length}
use Rattle.indexmap.specs.IndexMap.{index_map_len}
use Rattle.ledger_keys.specs.declared.kept.Kept.{Kept}
use Rattle.ledger_index.specs.Looks.{counted_times}
use Rattle.ledger_index.proofs.JudgedLaws.{Found}
use Rattle.ledger_index.proofs.judge.least_of_part.Given as goal

-- the least of all but those whose entries are left, here or in what is judged after the part; each entry that is left is one look more
abbrev pub invariant-loop-key : goal.invariant-loop-key
invariant-loop-key g l = record {
  least : (rest : List (g.row.K.Denot × Kept)) → g.J.Judge.IsLeast l.judge (l.part.entries ++ rest) l.fn.first → g.J.Judge.IsLeast l.judge (l.key-iterator ++ rest) l.least;
  found : Found (g.J.Judge.entry l.judge) l.key-iterator;
  counts : counted_times (length l.key-iterator) l.steps ≡ counted_times (index_map_len l.part) l.fn.steps;
  looks : l.steps + length l.key-iterator ≤ l.fn.steps + index_map_len l.part;
}

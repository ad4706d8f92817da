use Rattle.std.proofs.Common.{◌+◌, ◌≤◌, length, take}
use Rattle.span_index.specs.Table.{times_of}
use Rattle.commit_judge.proofs.span_tables.Found.{AllStand, AreFoundSpans, AreNamedSpans}
use Rattle.commit_judge.proofs.spans.found_spans.Given as goal

-- what the names so far name is found, with a look each, and all that is found stands
abbrev pub invariant-loop-at : goal.invariant-loop-at
invariant-loop-at g l = record {
  found : AreFoundSpans l.nodesize (times_of l.table) (take l.at-index l.refs) l.found.items;
  stand : AllStand (times_of l.table) l.found.items;
  named : AreNamedSpans l.nodesize (times_of l.table) l.refs l.found.items;
  few : length l.found.items ≤ l.at-index;
  looks : l.steps ≤ l.fn.steps + l.at-index;
}

use Rattle.std.proofs.Common.{◌≡◌, ◌+◌, ◌≤◌, take}
use Rattle.span_index.specs.Table.{times_of}
use Rattle.commit_judge.specs.Tables.{without_spans}
use Rattle.commit_judge.proofs.spans.take_spans.Given as goal

-- the spans so far are taken out of the table, with a look each
abbrev pub invariant-loop-span : goal.invariant-loop-span
invariant-loop-span g l = record {
  spans : times_of l.table ≡ without_spans (times_of l.initial.table) (take l.span-index l.spans);
  looks : l.steps ≤ l.initial.steps + l.span-index;
}

use Rattle.std.proofs.Common.{◌+◌, ◌-◌, ◌≤◌, length}
use Rattle.change_records.specs.Changes.{Ascend}
use Rattle.change_records.proofs.Merge.{IsMerged}
use Rattle.change_records.proofs.changes.pair.Given as goal

abbrev pub invariant-loop-next : goal.invariant-loop-next
invariant-loop-next l = record {
  in_old : l.i ≤ length l.old;
  in_new : l.j ≤ length l.new;
  merged : Ascend l.old → Ascend l.new → IsMerged l.old l.new l.i l.j l.changes.items;
}

abbrev pub decreases-loop-next : goal.decreases-loop-next
decreases-loop-next l = (length l.old - l.i) + (length l.new - l.j)

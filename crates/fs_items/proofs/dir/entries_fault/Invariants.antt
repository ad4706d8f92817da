use Rattle.std.proofs.Common.{◌≡◌, ◌-◌, ◌≤◌, length}
use Rattle.fs_items.proofs.Places.{found_from}
use Rattle.fs_items.specs.DirRow.{entry_rows, entry_end}
use Rattle.fs_items.proofs.dir.entries_fault.Given as goal

-- what is left decides
abbrev pub invariant-loop-end : goal.invariant-loop-end
invariant-loop-end l = record {
  decides : found_from (entry_rows l.at l.key l.bytes) (entry_end l.bytes) (length l.bytes) l.place ≡ found_from (entry_rows l.at l.key l.bytes) (entry_end l.bytes) (length l.bytes) 0;
  within : l.place ≤ length l.bytes;
}

abbrev pub decreases-loop-end : goal.decreases-loop-end
decreases-loop-end l = length l.bytes - l.place

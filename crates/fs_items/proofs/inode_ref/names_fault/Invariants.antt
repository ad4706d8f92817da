use Rattle.std.proofs.Common.{◌≡◌, ◌-◌, ◌≤◌, length}
use Rattle.fs_items.proofs.Places.{found_from}
use Rattle.fs_items.specs.InodeRefRow.{name_rows, name_end}
use Rattle.fs_items.proofs.inode_ref.names_fault.Given as goal

-- what is left decides
abbrev pub invariant-loop-end : goal.invariant-loop-end
invariant-loop-end l = record {
  decides : found_from (name_rows l.at l.key l.bytes) (name_end l.key l.bytes) (length l.bytes) l.place ≡ found_from (name_rows l.at l.key l.bytes) (name_end l.key l.bytes) (length l.bytes) 0;
  within : l.place ≤ length l.bytes;
}

abbrev pub decreases-loop-end : goal.decreases-loop-end
decreases-loop-end l = length l.bytes - l.place

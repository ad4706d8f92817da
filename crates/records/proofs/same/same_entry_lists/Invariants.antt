use Rattle.std.proofs.Common.{◌≡◌, ◌↔◌, length}
use Rattle.fs_items.specs.Lent.{entries_left}
use Rattle.records.proofs.same.same_entry_lists.Given as goal

abbrev pub invariant-loop-one : goal.invariant-loop-one
invariant-loop-one l = (entries_left l.ones ≡ entries_left l.others) ↔ (entries_left l.initial.ones ≡ entries_left l.initial.others)

abbrev pub decreases-loop-one : goal.decreases-loop-one
decreases-loop-one l = length (entries_left l.ones)

use Rattle.std.proofs.Common.{◌≡◌, ◌↔◌, length}
use Rattle.fs_items.specs.Lent.{names_left}
use Rattle.records.proofs.same.same_name_lists.Given as goal

abbrev pub invariant-loop-one : goal.invariant-loop-one
invariant-loop-one l = (names_left l.ones ≡ names_left l.others) ↔ (names_left l.initial.ones ≡ names_left l.initial.others)

abbrev pub decreases-loop-one : goal.decreases-loop-one
decreases-loop-one l = length (names_left l.ones)

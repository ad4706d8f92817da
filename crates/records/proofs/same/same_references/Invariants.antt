use Rattle.std.proofs.Common.{◌≡◌, ◌↔◌, length}
use Rattle.extent_items.specs.ExtentItems.{references_left}
use Rattle.records.proofs.same.same_references.Given as goal

abbrev pub invariant-loop-one : goal.invariant-loop-one
invariant-loop-one l = (references_left l.ones ≡ references_left l.others) ↔ (references_left l.initial.ones ≡ references_left l.initial.others)

abbrev pub decreases-loop-one : goal.decreases-loop-one
decreases-loop-one l = length (references_left l.ones)

use Rattle.std.proofs.Common.{◌≡◌, ◌↔◌, length}
use Rattle.volume_items.specs.ChunkItems.{stripes_left}
use Rattle.records.proofs.same.same_stripes.Given as goal

abbrev pub invariant-loop-one : goal.invariant-loop-one
invariant-loop-one l = (stripes_left l.ones ≡ stripes_left l.others) ↔ (stripes_left l.initial.ones ≡ stripes_left l.initial.others)

abbrev pub decreases-loop-one : goal.decreases-loop-one
decreases-loop-one l = length (stripes_left l.ones)

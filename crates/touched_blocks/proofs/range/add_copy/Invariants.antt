use Rattle.std.proofs.Common.{take}
use Rattle.touched_blocks.proofs.Adding.{AddedSpots}
use Rattle.touched_blocks.proofs.range.add_copy.Given as goal

abbrev pub invariant-loop-spot : goal.invariant-loop-spot
invariant-loop-spot l = AddedSpots l.pending l.chunk l.copy (take l.spot-index l.spot-items) l.initial.into.items l.into.items

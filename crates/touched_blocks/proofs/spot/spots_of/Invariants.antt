use Rattle.write_cache.specs.Lent.{pieces_left}
use Rattle.touched_blocks.proofs.Joining.{AreListedTo}
use Rattle.touched_blocks.proofs.spot.spots_of.Given as goal

abbrev pub invariant-loop-at : goal.invariant-loop-at
invariant-loop-at l = AreListedTo l.cache l.spots.items l.last (pieces_left l.at-iterator)

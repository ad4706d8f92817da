-- What is left of the items decides, and where the next must end is at hand.
use Rattle.std.proofs.Common.{◌≡◌, ◌-◌}
use Rattle.node_reader.specs.Places.{least_from}
use Rattle.node_reader.specs.Faults.{misplaced_at, end_before}
use Rattle.node_reader.proofs.entries.misplaced.Given as goal

abbrev pub invariant-loop-place : goal.invariant-loop-place
invariant-loop-place l =
    (l.end ≡ end_before l.bytes l.place)
    × (least_from (misplaced_at l.bytes l.count) 0 l.count ≡ least_from (misplaced_at l.bytes l.count) l.place (l.count - l.place))

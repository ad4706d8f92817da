-- What is left of the pointers decides.
use Rattle.std.proofs.Common.{◌≡◌, ◌-◌}
use Rattle.node_reader.specs.Places.{least_from}
use Rattle.node_reader.specs.Faults.{newer_at}
use Rattle.node_reader.proofs.entries.newer.Given as goal

abbrev pub invariant-loop-place : goal.invariant-loop-place
invariant-loop-place l = least_from (newer_at l.bytes) 0 l.count ≡ least_from (newer_at l.bytes) l.place (l.count - l.place)

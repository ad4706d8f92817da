-- What is left of the keys decides, and the key before is at hand.
use Rattle.std.proofs.Common.{◌≡◌, ◌-◌}
use Rattle.node_reader.specs.Places.{least_from}
use Rattle.node_reader.specs.Layout.{entry_key}
use Rattle.node_reader.specs.Faults.{disordered_at}
use Rattle.node_reader.proofs.entries.disorder.Given as goal

abbrev pub invariant-loop-place : goal.invariant-loop-place
invariant-loop-place l =
    (l.before ≡ entry_key l.bytes l.size (l.place - 1))
    × (least_from (disordered_at l.bytes l.size) 1 (l.count - 1) ≡ least_from (disordered_at l.bytes l.size) l.place (l.count - l.place))

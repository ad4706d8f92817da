use Rattle.std.proofs.Common.{length, ◌-◌, ◌≡◌, ◌≤◌}
use Rattle.image_diff.proofs.writes_between.Given as goal

abbrev pub invariant-loop-from : goal.invariant-loop-from
invariant-loop-from l = (length l.old ≡ length l.new) × (l.from ≤ length l.new)

abbrev pub decreases-loop-from : goal.decreases-loop-from
decreases-loop-from l = length l.new - l.from

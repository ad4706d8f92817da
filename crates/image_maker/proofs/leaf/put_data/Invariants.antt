use Rattle.std.proofs.Common.{◌≡◌, ◌++◌, ◌≤◌, drop, length}
use Rattle.image_maker.specs.Blocks.{data_bytes}
use Rattle.image_maker.proofs.leaf.put_data.Given as goal

abbrev pub invariant-loop-left : goal.invariant-loop-left
invariant-loop-left l = (l.left ≤ length l.items) × (l.fields ≡ l.fn.fields ++ data_bytes (drop l.left l.items))

abbrev pub decreases-loop-left : goal.decreases-loop-left
decreases-loop-left l = l.left

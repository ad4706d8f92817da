use Rattle.std.proofs.Common.{◌-◌, length}
use Rattle.volume_maker.proofs.tree.block_count.Given as goal

abbrev pub decreases-loop-from : goal.decreases-loop-from
decreases-loop-from l = length l.items - l.from

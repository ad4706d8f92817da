use Rattle.std.proofs.Common.{◌-◌}
use Rattle.touched_blocks.proofs.mark.+mark_above.Given as goal

abbrev pub decreases-mark_above : goal.decreases-mark_above
decreases-mark_above g l = 256 - l.live.now.level

-- it calls itself with fewer
use Rattle.std.proofs.Common.{length}
use Rattle.image_diff.proofs.known.+do_ascend.Given as goal

abbrev pub decreases-do_ascend : goal.decreases-do_ascend
decreases-do_ascend l = length l.roots.now

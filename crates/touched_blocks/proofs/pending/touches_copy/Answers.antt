use Rattle.std.proofs.Common.{ap, ◌∙◌}
use Rattle.touched_blocks.specs.Touched.{any_written, written_in}
use Rattle.touched_blocks.proofs.Writing.{touch_law}
use Rattle.touched_blocks.proofs.pending.touches_copy.Goals as goal

pub returns : goal.returns
returns c =
    touch_law c.touches.result c.args.cache.now c.args.at c.from.result c.touches.ensures
    ∙ ap (any_written (written_in c.args.cache.now) c.args.at) c.from.ensures

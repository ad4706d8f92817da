use Rattle.touched_blocks.proofs.Among.{count_among}
use Rattle.touched_blocks.proofs.marks.Marks.count_law.Goals as goal

pub returns : goal.returns
returns c = count_among c.args.self.now c.len.ensures.ordered

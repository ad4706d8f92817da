use Rattle.touched_blocks.proofs.Adding.{one_added}
use Rattle.touched_blocks.proofs.range.add_spot.Goals as goal

pub returns-in-Some : goal.returns-in-Some
returns-in-Some c =
    one_added c.push.result c.args.pending.now c.args.spot.now c.args.chunk.now c.args.copy c.args.into.now.items c.push.new.into.items c.in-Some.range
    c.requires.copy c.requires.written c.in-Some.ensures.met c.in-Some.ensures.low c.in-Some.ensures.high c.in-Some.ensures.only c.in-Some.ensures.meets c.push.ensures

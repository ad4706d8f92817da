use Rattle.touched_blocks.specs.Marks.{marked_by}
use Rattle.tree_change.proofs.RisingLoops.{lives_more}
use Rattle.tree_change.proofs.rising.places_of.Goals as goal

pub loop-live-preserved : goal.loop-live-preserved
loop-live-preserved c =
    lives_more (marked_by c.loop-live.marks) (marked_by c.put.new.self) c.args.lives.now c.loop-live.live-index _ c.loop-live-test.true
    c.loop-live.invariant c.in_ok-put.ensures.ok

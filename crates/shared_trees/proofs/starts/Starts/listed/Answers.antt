use Rattle.std.proofs.Common.{take, arith}
use Rattle.live_index.specs.Table.{pairs_of}
use Rattle.touched_blocks.specs.Marks.{marked_in}
use Rattle.shared_trees.specs.Under.{under_of}
use Rattle.shared_trees.proofs.Listed.{list_more}
use Rattle.shared_trees.proofs.starts.Starts.listed.Goals as goal

pub loop-place-preserved : goal.loop-place-preserved
loop-place-preserved g c =
    let places = c.deref-place-items.result.now in
    record {
      listed = list_more (pairs_of c.args.table.now) places c.loop-place.place-index _ (under_of c.add.new.self) c.loop-place-test.true
          (c.in_ok-add.ensures.ok (marked_in (take c.loop-place.place-index places)) c.loop-place.invariant.listed);
      looks = omega (arith, c.loop-place.invariant.looks, c.add.ensures.looks);
    }

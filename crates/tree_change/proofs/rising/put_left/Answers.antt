use Rattle.live_index.specs.Table.{pairs_of}
use Rattle.touched_blocks.specs.Marks.{marked_by}
use Rattle.tree_change.specs.Rising.{risen_by, unmoved_by}
use Rattle.tree_change.proofs.Leaving.{some_more}
use Rattle.tree_change.proofs.RisingLoops.{looks_more, where_same}
use Rattle.tree_change.proofs.rising.put_left.Goals as goal

-- src/rising.rt:106:5
pub loop-place-preserved : goal.loop-place-preserved
loop-place-preserved g c = record {
  old = some_more (risen_by (pairs_of c.args.table.now) (marked_by c.args.changed.now))
      c.args.old_blocks.now.items c.loop-place.old_blocks.items c.push_some.new.into.items _ c.args.places.now c.loop-place.place-index _
      c.loop-place-test.true c.loop-place.invariant.old c.left_at-live.ensures.pair c.in_ok-push_some.ensures;
  new = some_more (unmoved_by (pairs_of c.args.table.now) (marked_by c.args.changed.now) (marked_by c.args.shifted.now))
      c.args.new_blocks.now.items c.loop-place.new_blocks.items c.push_some-in-loop-place.new.into.items _ c.args.places.now c.loop-place.place-index _
      c.loop-place-test.true c.loop-place.invariant.new
      (where_same _ _ _ _ c.where_free.ensures c.left_at-live.ensures.pair)
      c.in_ok-push_some-2.ensures;
  looks = looks_more (marked_by c.args.changed.now) c.args.places.now c.loop-place.place-index _ c.args.steps.now c.loop-place.steps
      c.left_at-live.new.steps c.loop-place-test.true c.loop-place.invariant.looks c.left_at-live.ensures.looks;
}

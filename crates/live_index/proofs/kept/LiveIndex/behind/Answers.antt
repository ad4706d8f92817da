use Rattle.live_index.proofs.WalkLaws.{range_stands}
use Rattle.live_index.proofs.kept.LiveIndex.behind.Goals as goal

-- src/in_order.rt:35:5
pub invariant_of-result : goal.invariant_of-result
invariant_of-result g c = record {
  stand = range_stands _ c.args.self.now.orders c.key_of-place.result c.range.result c.args.self.now.alike (c.range.ensures.in_range tt);
}

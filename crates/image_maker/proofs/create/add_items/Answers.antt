use Rattle.image_maker.specs.Maker.{items_of, nodesize_of}
use Rattle.std.proofs.Common.{◌+◌, ◌∙◌, ap, nat_le, length}
use Rattle.image_maker.specs.Leaf.{space_of}
use Rattle.image_maker.proofs.Space.{next_item}
use Rattle.image_maker.proofs.create.add_items.Goals as goal

pub loop-item-preserved : goal.loop-item-preserved
loop-item-preserved c =
    let kept = c.loop-item.invariant in
    let is = c.in_ok-push.ensures in (
      is.size ∙ kept.0,
      is.header ∙ kept.1,
      λ room. next_item (items_of c.args.leaf.now) (items_of c.loop-item.leaf) (items_of c.push.new.self) c.args.items.now c.loop-item.item-index
          (nodesize_of c.args.leaf.now) c.item-item.result c.as_slice.result.now c.in_ok-push.field-0
          c.loop-item-test.true c.item-item.is c.as_slice.ensures (is.fits ∙ ap (nat_le (126 + space_of (items_of c.loop-item.leaf) + length c.as_slice.result.now)) kept.0) is.items room (kept.2 room),
    )

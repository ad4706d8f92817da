use Rattle.std.proofs.Common.{ap, ◌∙◌}
use Rattle.records.specs.Part.{owned_part}
use Rattle.records.specs.Part.{Located}
use Rattle.records.specs.declared.rec.ItemAt.{ItemAt}
use Rattle.tree_laws.specs.MergedLaw.{root_in}
use Rattle.tree_change.specs.Gathered.{located_item}
use Rattle.tree_change.proofs.Merges.{added_more}
use Rattle.tree_change.proofs.merge.add_roots.Goals as goal

pub loop-item-preserved : goal.loop-item-preserved
loop-item-preserved c =
    added_more located_item (λ (one : Located). root_in one.part) c.args.into.now.items c.loop-item.into.items
    c.push_some.new.into.items c.root_in.result
    c.args.items.now c.loop-item.item-index c.item-item.result c.loop-item-test.true c.loop-item.invariant
    (c.root_in.ensures ∙ ap (λ (item : ItemAt). root_in (owned_part item.part)) c.item-item.is) c.in_ok-push_some.ensures

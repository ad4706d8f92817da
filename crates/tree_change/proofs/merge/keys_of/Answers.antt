use Rattle.std.proofs.Common.{ap, ◌∙◌}
use Rattle.std.specs.BTreeSet.{contains}
use Rattle.verdict.specs.OnDisk.{key_same}
use Rattle.verdict.specs.declared.key.Key.{Key}
use Rattle.volume_items.specs.declared.root_at.RootAt.{RootAt}
use Rattle.live_index.specs.Orders.{by_key}
use Rattle.records.specs.Part.{owned_part}
use Rattle.records.specs.Part.{Located}
use Rattle.records.specs.declared.rec.ItemAt.{ItemAt}
use Rattle.tree_laws.specs.MergedLaw.{root_in}
use Rattle.tree_change.specs.Gathered.{located_item}
use Rattle.tree_change.proofs.Merges.{has_more}
use Rattle.tree_change.proofs.merge.keys_of.Goals as goal

pub loop-item-preserved : goal.loop-item-preserved
loop-item-preserved c =
    has_more located_item (λ (one : Located). root_in one.part) (λ (key : Key) (root : RootAt). key_same root.key key)
    (contains by_key c.loop-item.keys)
    (contains by_key c.put_key.new.keys) c.root_in.result c.args.items.now c.loop-item.item-index c.item-item.result c.loop-item-test.true
    c.loop-item.invariant
    (c.root_in.ensures ∙ ap (λ (item : ItemAt). root_in (owned_part item.part)) c.item-item.is) c.in_ok-put_key.ensures

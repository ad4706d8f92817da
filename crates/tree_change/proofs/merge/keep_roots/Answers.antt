use Rattle.std.proofs.Common.{not, ap, sym, ◌∙◌}
use Rattle.std.specs.BTreeSet.{contains}
use Rattle.volume_items.specs.declared.root_at.RootAt.{RootAt}
use Rattle.live_index.specs.Orders.{by_key}
use Rattle.tree_change.proofs.Merges.{kept_less, kept_more}
use Rattle.tree_change.proofs.merge.keep_roots.Goals as goal

pub loop-root-preserved-then-contains : goal.loop-root-preserved-then-contains
loop-root-preserved-then-contains c =
    kept_less (λ (root : RootAt). not (contains by_key c.args.keys.now root.key)) c.args.into.now.items c.loop-root.into.items c.args.old.now
    c.loop-root.root-index _
    c.loop-root-test.true c.loop-root.invariant (ap not (sym c.contains.ensures ∙ c.if-contains.true))

pub loop-root-preserved : goal.loop-root-preserved
loop-root-preserved c =
    kept_more (λ (root : RootAt). not (contains by_key c.args.keys.now root.key)) c.args.into.now.items c.loop-root.into.items
    c.push_some.new.into.items c.args.old.now
    c.loop-root.root-index _ c.loop-root-test.true c.loop-root.invariant (ap not (sym c.contains.ensures ∙ c.if-contains.false))
    c.in_ok-push_some.ensures

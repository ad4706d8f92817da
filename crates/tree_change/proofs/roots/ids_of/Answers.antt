use Rattle.tree_change.specs.Roots.{named_in}
use Rattle.tree_change.proofs.Naming.{named_more}
use Rattle.tree_change.proofs.roots.ids_of.Goals as goal

-- src/roots.rt:84:5
pub loop-root-preserved : goal.loop-root-preserved
loop-root-preserved c =
    named_more (named_in c.loop-root.ids) (named_in c.put.new.self) c.args.roots.now c.loop-root.root-index _ c.loop-root-test.true
    c.loop-root.invariant c.in_ok-put.ensures

use Rattle.std.proofs.Common.{List, sym, subst}
use Rattle.std.specs.List.{Contains}
use Rattle.volume_maker.specs.declared.block.Block.{Block}
use Rattle.trace_maker.proofs.Gathering.{more_of_leaf, more_of_root}
use Rattle.trace_maker.proofs.writes.add_tree.Goals as goal

pub loop-leaf-preserved : goal.loop-leaf-preserved
loop-leaf-preserved c =
    let leaf = c.leaf-item.result in
    let P : List Block → Type 0 = λ l. Contains l leaf in
    let one = subst P c.deref-leaf-items.ensures.value (c.loop-leaf.leaf-index, c.loop-leaf-test.true, sym c.leaf-item.is) in
    more_of_leaf c.args.generation c.args.tree.now leaf c.args.copy c.args.into.now.items c.loop-leaf.into.items c.add_block.new.into.items
    one c.loop-leaf.invariant c.in_ok-add_block.ensures

pub returns : goal.returns
returns c =
    more_of_root c.args.generation c.args.tree.now c.args.copy c.args.into.now.items c.loop-leaf.into.items c.add_block-2.new.into.items
    c.loop-leaf.invariant c.in_ok-add_block-2.ensures

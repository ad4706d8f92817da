use Rattle.std.proofs.Common.{rules, refl}
use Rattle.tree_change.specs.declared.trees.TreeParts.{TreeParts}
use Rattle.tree_change.specs.Gathered.{gathers}
use Rattle.tree_change.proofs.Looking.{gone_few}
use Rattle.tree_change.proofs.Vanishing.{gone_halts, gone_ok}
use Rattle.tree_change.proofs.trees.change_gone.Goals as goal

pub returns-in_err-old-clause-tells : goal.returns-in_err-old-clause-tells
returns-in_err-old-clause-tells g c =
    gone_halts g.D.Disk c.args.disk.now _ c.args.sides.now c.args.before.now c.in_err-old.field-0.0 _ (search rules)
    c.requires.fit.none c.in_err-old.ensures.gives

pub returns-clause-tells : goal.returns-clause-tells
returns-clause-tells g c =
    let made : TreeParts = record {
      old_blocks = c.add_known.new.into;
      new_blocks = c.new.result;
      shifted = c.new-2.result;
      old_items = c.in_ok-old.old.items;
      new_items = c.new-3.result;
    } in
    gone_ok (g.D.Disk.bytes c.args.disk.now) c.args.sides.now c.args.before.now made c.in_ok-old.old _ _ _ c.requires.fit.none
    c.in_ok-old.ensures.gives c.in_ok-old.ensures.reads c.new-old_blocks.ensures.items (rw c.deref.ensures.value at c.in_ok-add_known.ensures.puts)
    c.new.ensures.items c.new-2.ensures.items refl c.new-3.ensures.items

pub returns-clause-looks : goal.returns-clause-looks
returns-clause-looks g c =
    gone_few c.args.sides.now (g.D.Disk.bytes c.args.disk.now) c.args.before.now (gathers c.in_ok-old.old)
    c.args.steps.now c.walk_old.new.steps c.add_known.new.steps c.requires.fit.none
    c.in_ok-old.ensures.gives c.in_ok-old.ensures.looks (rw c.deref.ensures.value at c.in_ok-add_known.ensures.looks)

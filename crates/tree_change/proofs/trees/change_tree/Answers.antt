use Rattle.std.proofs.Common.{rules, ◌+◌, ◌≤◌, subst}
use Rattle.tree_change.specs.Gathered.{gathers}
use Rattle.tree_change.specs.Told.{new_by}
use Rattle.tree_change.proofs.Looking.{met_length, tree_few}
use Rattle.tree_change.proofs.OneChange.{before_halts, new_halts, tree_told}
use Rattle.tree_change.proofs.trees.change_tree.Goals as goal

pub returns-clause-tells : goal.returns-clause-tells
returns-clause-tells g c =
    tree_told c.args.sides.now (g.D.Disk.bytes c.args.disk.now) c.args.before c.args.now.now (new_by c.in_ok-new.new) (gathers c.in_ok-old.old)
    _ _ _ _ _ _ (g.D.Disk.reads c.args.disk.now) (g.D.Disk.reads c.walk_new.new.disk) (g.D.Disk.reads c.walk_before.new.disk)
    c.requires.fit.none c.in_ok-new.ensures.gives (rw (← c.in_ok-new.ensures.kept.bytes, ← c.deref.ensures.value) c.in_ok-old.ensures.gives)
    c.in_ok-new.ensures.reads (rw (← c.in_ok-new.ensures.kept.bytes) c.in_ok-old.ensures.reads)
    c.new-old_blocks.ensures.items (rw (← c.deref-2.ensures.value) c.in_ok-add_known.ensures.puts) c.new-new_blocks.ensures.items c.new-shifted.ensures.items
    (rw (← c.deref-3.ensures.value, ← c.deref-4.ensures.value, ← c.deref-5.ensures.value) c.in_ok-add_new.ensures.puts)

pub returns-in_err-new-clause-tells : goal.returns-in_err-new-clause-tells
returns-in_err-new-clause-tells g c =
    new_halts g.D.Disk c.args.disk.now c.walk_new.new.disk c.args.sides.now c.args.before c.args.now.now c.in_err-new.field-0.0 _ (search rules)
    c.in_err-new.ensures.gives

pub returns-in_err-old-clause-tells : goal.returns-in_err-old-clause-tells
returns-in_err-old-clause-tells g c =
    before_halts g.D.Disk c.args.disk.now c.walk_new.new.disk c.walk_before.new.disk c.args.sides.now c.args.before c.args.now.now
    (new_by c.in_ok-new.new) c.in_err-old.field-0.0 _ (search rules) c.in_ok-new.ensures.kept.bytes c.requires.fit.none c.in_ok-new.ensures.gives
    (rw (← c.deref.ensures.value) c.in_err-old.ensures.gives)

pub returns-clause-looks : goal.returns-clause-looks
returns-clause-looks g c =
    tree_few c.args.sides.now (g.D.Disk.bytes c.args.disk.now) c.args.before c.args.now.now (new_by c.in_ok-new.new) (gathers c.in_ok-old.old)
    c.args.steps.now c.walk_new.new.steps c.walk_before.new.steps c.add_known.new.steps c.add_new.new.steps c.requires.fit.none
    c.in_ok-new.ensures.gives (rw (← c.in_ok-new.ensures.kept.bytes, ← c.deref.ensures.value) c.in_ok-old.ensures.gives)
    c.in_ok-new.ensures.looks (rw (← c.in_ok-new.ensures.kept.bytes, ← c.deref.ensures.value) c.in_ok-old.ensures.looks)
    (rw (← c.deref-2.ensures.value) c.in_ok-add_known.ensures.looks)
    (subst (λ n. c.add_new.new.steps ≤ c.add_known.new.steps + n) (met_length c.in_ok-new.new.met.items)
    (rw (← c.deref-4.ensures.value) c.in_ok-add_new.ensures.looks))

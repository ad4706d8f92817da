use Rattle.std.proofs.Common.{sym, ◌∙◌}
use Rattle.tree_change.proofs.TopTrees.{roots_found, roots_told}
use Rattle.tree_change.proofs.tops.change_roots.Goals as goal

pub returns-in_ok-add-in-None-clause-tells : goal.returns-in_ok-add-in-None-clause-tells
returns-in_ok-add-in-None-clause-tells g c =
    roots_told c.args.sides.now (g.D.Disk.bytes c.args.disk.now) c.args.olds.now c.args.all.now c.add.new.self c.in_ok-made.made c.in_ok-roots.roots.items
    c.top_root-before.result c.top_root-now.result (g.D.Disk.reads c.args.disk.now) (g.D.Disk.reads c.change_tree.new.disk)
    c.top_root-before.ensures c.top_root-now.ensures c.in_ok-made.ensures.tells
    (rw (← c.deref.ensures.value, ← c.deref-2.ensures.value) c.in_ok-roots.ensures)
    (rw (← c.deref-3.ensures.value) (sym c.in_ok-found.ensures ∙ c.in-None.is)) c.in_ok-add-in-None.ensures

pub returns-in-Some-clause-tells : goal.returns-in-Some-clause-tells
returns-in-Some-clause-tells g c =
    roots_found c.args.sides.now (g.D.Disk.bytes c.args.disk.now) c.args.olds.now c.in_ok-made.made c.in_ok-roots.roots.items
    c.top_root-before.result c.top_root-now.result (g.D.Disk.reads c.args.disk.now) (g.D.Disk.reads c.change_tree.new.disk) c.in-Some.found
    c.top_root-before.ensures c.top_root-now.ensures c.in_ok-made.ensures.tells
    (rw (← c.deref.ensures.value, ← c.deref-2.ensures.value) c.in_ok-roots.ensures)
    (rw (← c.deref-3.ensures.value) (sym c.in_ok-found.ensures ∙ c.in-Some.is))

pub returns-in_ok-add-in-None-clause-looks : goal.returns-in_ok-add-in-None-clause-looks
returns-in_ok-add-in-None-clause-looks g c =
    rw (← c.top_root-before.ensures, ← c.top_root-now.ensures) c.in_ok-made.ensures.looks

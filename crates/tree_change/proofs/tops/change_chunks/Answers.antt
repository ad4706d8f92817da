use Rattle.std.proofs.Common.{sym, ◌∙◌}
use Rattle.tree_change.proofs.TopTrees.{chunks_found, chunks_told}
use Rattle.tree_change.proofs.tops.change_chunks.Goals as goal

pub returns-in_ok-add-in-None-clause-tells : goal.returns-in_ok-add-in-None-clause-tells
returns-in_ok-add-in-None-clause-tells g c =
    chunks_told c.args.sides.now (g.D.Disk.bytes c.args.disk.now) c.args.all.now c.add.new.self c.in_ok-made.made _
    c.chunk_root-before.result c.chunk_root-now.result (g.D.Disk.reads c.args.disk.now) (g.D.Disk.reads c.change_tree.new.disk)
    c.chunk_root-before.ensures c.chunk_root-now.ensures c.in_ok-made.ensures.tells
    (rw (← c.deref.ensures.value, ← c.deref-2.ensures.value) c.in_ok-map.ensures) (sym c.map_fault.ensures ∙ c.in-None.is) c.in_ok-add-in-None.ensures

pub returns-in-Some-clause-tells : goal.returns-in-Some-clause-tells
returns-in-Some-clause-tells g c =
    chunks_found c.args.sides.now (g.D.Disk.bytes c.args.disk.now) c.in_ok-made.made _
    c.chunk_root-before.result c.chunk_root-now.result (g.D.Disk.reads c.args.disk.now) (g.D.Disk.reads c.change_tree.new.disk) c.in-Some.found
    c.chunk_root-before.ensures c.chunk_root-now.ensures c.in_ok-made.ensures.tells
    (rw (← c.deref.ensures.value, ← c.deref-2.ensures.value) c.in_ok-map.ensures) (sym c.map_fault.ensures ∙ c.in-Some.is)

pub returns-in_ok-add-in-None-clause-looks : goal.returns-in_ok-add-in-None-clause-looks
returns-in_ok-add-in-None-clause-looks g c =
    rw (← c.chunk_root-before.ensures, ← c.chunk_root-now.ensures) c.in_ok-made.ensures.looks

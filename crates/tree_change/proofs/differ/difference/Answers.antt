use Rattle.std.proofs.Common.{rules}
use Rattle.block_source.specs.declared.halt.Fault.{Fault}
use Rattle.live_index.specs.Table.{pairs_of}
use Rattle.tree_change.proofs.DifferenceFew.{change_few, found_few, none_moved}
use Rattle.tree_change.proofs.Differing.{changes, finds}
use Rattle.tree_change.proofs.differ.difference.Goals as goal

pub returns-in-Ok-clause-gives : goal.returns-in-Ok-clause-gives
returns-in-Ok-clause-gives g c =
    rw (← c.roots.ensures.items, ← c.live.ensures)
    (changes g.D.Disk c.args.disk.now c.change_from.new.disk _ _ c.args.cache.now (g.B.Bases.superblock c.args.bases.now)
    (g.B.Bases.chunks c.args.bases.now) c.roots.result.now (g.B.Bases.is_sum_free c.args.bases.now) (g.B.Bases.is_full c.args.bases.now)
    (pairs_of c.live.result.now) c.args.fresh.now c.change_from.ensures.kept.bytes c.sup.ensures c.map.ensures
    c.in-Ok.change c.change_from.result (search rules) c.change_from.ensures.tells)

pub returns-clause-gives : goal.returns-clause-gives
returns-clause-gives g c =
    rw (← c.roots.ensures.items, ← c.live.ensures)
    (finds g.D.Disk c.args.disk.now c.change_from.new.disk _ _ c.args.cache.now (g.B.Bases.superblock c.args.bases.now)
    (g.B.Bases.chunks c.args.bases.now) c.roots.result.now (g.B.Bases.is_sum_free c.args.bases.now) (g.B.Bases.is_full c.args.bases.now)
    (pairs_of c.live.result.now) c.args.fresh.now c.change_from.ensures.kept.bytes c.sup.ensures c.map.ensures
    c.in-Err.finding c.change_from.result (search rules) c.change_from.ensures.tells)

pub returns-in-Ok-clause-looks : goal.returns-in-Ok-clause-looks
returns-in-Ok-clause-looks g c =
    rw (← c.roots.ensures.items, ← c.live.ensures)
    (change_few {E = Fault} g.D.Disk c.args.disk.now c.change_from.new.disk _ c.args.cache.now (g.B.Bases.superblock c.args.bases.now)
    (g.B.Bases.chunks c.args.bases.now) c.roots.result.now (g.B.Bases.is_sum_free c.args.bases.now) (g.B.Bases.is_full c.args.bases.now)
    c.live.result.now c.args.fresh.now c.args.steps.now c.change_from.new.steps c.in-Ok.change c.change_from.result c.sup.ensures c.map.ensures
    c.requires.end (g.met.D.Disk.told_length c.args.disk.now) (search rules) c.change_from.ensures.looks
    (changes g.D.Disk c.args.disk.now c.change_from.new.disk _ _ c.args.cache.now (g.B.Bases.superblock c.args.bases.now)
    (g.B.Bases.chunks c.args.bases.now) c.roots.result.now (g.B.Bases.is_sum_free c.args.bases.now) (g.B.Bases.is_full c.args.bases.now)
    (pairs_of c.live.result.now) c.args.fresh.now c.change_from.ensures.kept.bytes c.sup.ensures c.map.ensures
    c.in-Ok.change c.change_from.result (search rules) c.change_from.ensures.tells)).0

pub returns-in-Ok-clause-moved : goal.returns-in-Ok-clause-moved
returns-in-Ok-clause-moved g c =
    rw (← c.roots.ensures.items, ← c.live.ensures)
    (change_few {E = Fault} g.D.Disk c.args.disk.now c.change_from.new.disk _ c.args.cache.now (g.B.Bases.superblock c.args.bases.now)
    (g.B.Bases.chunks c.args.bases.now) c.roots.result.now (g.B.Bases.is_sum_free c.args.bases.now) (g.B.Bases.is_full c.args.bases.now)
    c.live.result.now c.args.fresh.now c.args.steps.now c.change_from.new.steps c.in-Ok.change c.change_from.result c.sup.ensures c.map.ensures
    c.requires.end (g.met.D.Disk.told_length c.args.disk.now) (search rules) c.change_from.ensures.looks
    (changes g.D.Disk c.args.disk.now c.change_from.new.disk _ _ c.args.cache.now (g.B.Bases.superblock c.args.bases.now)
    (g.B.Bases.chunks c.args.bases.now) c.roots.result.now (g.B.Bases.is_sum_free c.args.bases.now) (g.B.Bases.is_full c.args.bases.now)
    (pairs_of c.live.result.now) c.args.fresh.now c.change_from.ensures.kept.bytes c.sup.ensures c.map.ensures
    c.in-Ok.change c.change_from.result (search rules) c.change_from.ensures.tells)).1

pub returns-clause-looks : goal.returns-clause-looks
returns-clause-looks g c =
    found_few c.in-Err.finding (g.D.Disk.bytes c.args.disk.now) c.args.cache.now (g.B.Bases.superblock c.args.bases.now)
    (g.B.Bases.chunks c.args.bases.now) (g.B.Bases.root_items c.args.bases.now) (g.B.Bases.is_sum_free c.args.bases.now)
    (g.B.Bases.is_full c.args.bases.now) (pairs_of (g.B.Bases.table c.args.bases.now)) c.args.fresh.now c.args.steps.now c.change_from.new.steps

pub returns-clause-moved : goal.returns-clause-moved
returns-clause-moved g c =
    none_moved c.in-Err.finding (g.D.Disk.bytes c.args.disk.now) c.args.cache.now (g.B.Bases.superblock c.args.bases.now)
    (g.B.Bases.chunks c.args.bases.now) (g.B.Bases.root_items c.args.bases.now) (g.B.Bases.is_sum_free c.args.bases.now)
    (g.B.Bases.is_full c.args.bases.now) (pairs_of (g.B.Bases.table c.args.bases.now)) c.args.fresh.now

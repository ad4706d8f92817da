use Rattle.std.proofs.Common.{inl, inr, refl, rules}
use Rattle.live_index.specs.Table.{pairs_of}
use Rattle.tree_change.proofs.Readable.{old_told, unreadable}
use Rattle.tree_change.proofs.ComparedLooks.{old_few}
use Rattle.tree_change.proofs.differ.change_from.Goals as goal

pub returns-in_err-check_readable-clause-tells : goal.returns-in_err-check_readable-clause-tells
returns-in_err-check_readable-clause-tells g c =
    unreadable g.D.Disk c.args.disk.now c.args.disk.now c.args.was.now c.args.cache.now c.args.fresh.now c.args.roots.now
    (pairs_of c.args.table.now) c.in_err-check_readable.field-0.0 _ (search rules) (inl c.in_err-check_readable.ensures.fails)

pub returns-in_err-check_readable-2-clause-tells : goal.returns-in_err-check_readable-2-clause-tells
returns-in_err-check_readable-2-clause-tells g c =
    unreadable g.D.Disk c.args.disk.now c.args.disk.now c.args.was.now c.args.cache.now c.args.fresh.now c.args.roots.now
    (pairs_of c.args.table.now) c.in_err-check_readable-2.field-0.0 _ (search rules) (inr c.in_err-check_readable-2.ensures.fails)

pub returns-clause-tells : goal.returns-clause-tells
returns-clause-tells g c =
    old_told g.D.Disk c.args.disk.now c.compare.new.disk c.args.was.now c.args.cache.now c.args.fresh.now c.args.roots.now
    (pairs_of c.args.table.now) _ c.compare.result c.narrow_law.ensures refl refl refl refl refl refl c.requires.end (g.met.D.Disk.told_length c.args.disk.now)
    c.compare.ensures.tells

pub returns-clause-looks : goal.returns-clause-looks
returns-clause-looks g c =
    old_few _ _ (g.D.Disk.bytes c.args.disk.now) c.compare.result c.args.was.now c.args.cache.now c.args.fresh.now c.args.roots.now
    c.args.table.now c.args.steps.now c.touched_blocks.new.steps c.compare.new.steps refl refl refl refl refl (search rules) (search rules)
    c.narrow_law.ensures c.count_law.ensures c.in_ok-marks.ensures.few c.compare.ensures.looks

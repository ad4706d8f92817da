use Rattle.std.proofs.lemmas.Result.{err_from_is_err_and}
use Rattle.live_maker.specs.Opened.{held_in}
use Rattle.plain_check.specs.Opened.{known}
use Rattle.commit_judge.specs.Filling.{filled_in}
use Rattle.commit_judge.proofs.starts.Tables.{few_told, halted_reading, left_as, read_told, tables_told}
use Rattle.commit_judge.proofs.filling.tables_of.Goals as goal

pub returns-in_err-read_all-clause-gives : goal.returns-in_err-read_all-clause-gives
returns-in_err-read_all-clause-gives g c =
    let stopped = halted_reading g.D.Disk c.args.disk.now c.args.cache.now (known c.args.volume.now)
    (held_in c.new.result, filled_in c.new-2.result) c.in_err-read_all.field-0.0 c.in_err-read_all.ensures.taken in
    let gone = err_from_is_err_and c.from_residual.result c.from_residual.ensures.1 in
    rw (gone.1, gone.2) stopped

pub returns-clause-gives : goal.returns-clause-gives
returns-clause-gives g c =
    let all = c.read_all.new.into in
    read_told (g.D.Disk.bytes c.args.disk.now) c.args.cache.now (known c.args.volume.now)
    (held_in c.new.result, filled_in c.new-2.result) (held_in all.first, filled_in all.second) c.in_ok-read_all.ensures.taken

pub returns-clause-tables : goal.returns-clause-tables
returns-clause-tables g c =
    let all = c.read_all.new.into in
    let made = c.in_ok-tables in
    tables_told (g.D.Disk.bytes c.args.disk.now) c.args.cache.now (known c.args.volume.now)
    (held_in c.new.result) (held_in all.first) (filled_in c.new-2.result) (filled_in all.second) made.tables c.args.steps.now
    c.new.ensures c.new-2.ensures c.in_ok-read_all.ensures.taken
    (record { live = made.ensures.live; sums = made.ensures.sums; spans = made.ensures.spans; free = made.ensures.free })

-- the counter ends as it was left
pub returns-clause-looks : goal.returns-clause-looks
returns-clause-looks g c =
    let all = c.read_all.new.into in
    let made = c.in_ok-tables in
    few_told (g.D.Disk.bytes c.args.disk.now) c.args.cache.now (known c.args.volume.now)
    (held_in c.new.result) (held_in all.first) (filled_in c.new-2.result) (filled_in all.second) made.tables c.args.steps.now _
    c.new.ensures c.new-2.ensures c.in_ok-read_all.ensures.taken made.ensures.few
    (left_as _ _ _ _ c.looks.ensures c.if-looks.false made.ensures.looks)

use Rattle.std.proofs.Common.{refl, subst}
use Rattle.std.specs.Prelude.{Option}
use Rattle.std.proofs.lemmas.Result.{err_from_is_err_and}
use Rattle.verdict.specs.declared.finding.Finding.{Finding}
use Rattle.plain_check.specs.Opened.{known}
use Rattle.commit_judge.proofs.starts.Looks.{looks_told}
use Rattle.commit_judge.proofs.starts.Ready.{IsFoundIn, found_told, halted_memory, halted_open, halted_tables, kept_both, ready_told}
use Rattle.commit_judge.proofs.build.index_of.Goals as goal

pub returns-in_err-volume-clause-told : goal.returns-in_err-volume-clause-told
returns-in_err-volume-clause-told g c =
    let stopped = halted_open g.D.Disk c.args.disk.now c.new-cache.result c.in_err-volume.field-0.0 c.new-cache.ensures c.in_err-volume.ensures.gives in
    let gone = err_from_is_err_and c.from_residual.result c.from_residual.ensures.1 in
    rw (gone.1, gone.2) stopped

pub returns-in_err-tables-clause-told : goal.returns-in_err-tables-clause-told
returns-in_err-tables-clause-told g c =
    let stopped = halted_tables g.D.Disk c.args.disk.now c.open.new.disk c.new-cache.result (known c.in_ok-volume.volume) c.in_err-tables.field-0.0
    c.in_ok-volume.ensures.kept.bytes c.new-cache.ensures c.in_ok-volume.ensures.gives c.in_err-tables.ensures.gives in
    let gone = err_from_is_err_and c.from_residual-in_err-tables.result c.from_residual-in_err-tables.ensures.1 in
    rw (gone.1, gone.2) stopped

pub returns-in_err-roots-clause-told : goal.returns-in_err-roots-clause-told
returns-in_err-roots-clause-told g c =
    let gone = err_from_is_err_and c.from_residual-in_err-roots.result c.from_residual-in_err-roots.ensures.1 in
    rw (gone.1, gone.2) (halted_memory (g.D.Disk.bytes c.args.disk.now))

pub returns-in_err-roots-clause-kept : goal.returns-in_err-roots-clause-kept
returns-in_err-roots-clause-kept g c =
    let gone = err_from_is_err_and c.from_residual-in_err-roots.result c.from_residual-in_err-roots.ensures.1 in
    rw (gone.1, gone.2)
    (kept_both g.D.Disk c.args.disk.now c.open.new.disk c.tables_of.new.disk c.in_ok-volume.ensures.kept c.in_ok-tables.ensures.kept)

pub returns-in-Some-clause-told : goal.returns-in-Some-clause-told
returns-in-Some-clause-told g c =
    let volume = c.in_ok-volume in
    let tables = c.in_ok-tables in
    found_told (g.D.Disk.bytes c.args.disk.now) (g.D.Disk.bytes c.open.new.disk) c.new-cache.result (known volume.volume) tables.tables c.in-Some.found
    volume.ensures.kept.bytes c.new-cache.ensures volume.ensures.gives tables.ensures.tables
    (subst (λ (f : Option Finding). IsFoundIn (known volume.volume) tables.tables f) c.in-Some.is c.in_ok-found.ensures.found)

pub returns-clause-told : goal.returns-clause-told
returns-clause-told g c =
    let volume = c.in_ok-volume in
    let tables = c.in_ok-tables in
    ready_told (g.D.Disk.bytes c.args.disk.now) (g.D.Disk.bytes c.open.new.disk) c.new-cache.result (known volume.volume) tables.tables _
    (g.D.Disk.reads c.args.disk.now) (g.D.Disk.reads c.open.new.disk) (g.D.Disk.reads c.tables_of.new.disk)
    volume.ensures.kept.bytes c.new-cache.ensures volume.ensures.gives tables.ensures.tables
    (subst (λ (f : Option Finding). IsFoundIn (known volume.volume) tables.tables f) c.in_default.is c.in_ok-found.ensures.found)
    (record {
      raw_is = refl;
      sup_is = refl;
      map_is = refl;
      roots_are = rw c.deref.ensures.value at c.in_ok-roots.ensures.same;
      free_is = refl;
      full_is = c.new.ensures.empty;
      live_is = refl;
      totals_are = refl;
      spans_are = refl;
    })
    volume.ensures.reads tables.ensures.reads

pub returns-clause-looks : goal.returns-clause-looks
returns-clause-looks g c =
    let volume = c.in_ok-volume in
    let tables = c.in_ok-tables in
    looks_told (g.D.Disk.bytes c.args.disk.now) (g.D.Disk.bytes c.open.new.disk) c.new-cache.result (known volume.volume) tables.tables
    c.args.steps.now c.tables_of.new.steps c.finding_of.new.steps
    volume.ensures.kept.bytes c.new-cache.ensures volume.ensures.gives tables.ensures.tables tables.ensures.looks c.in_ok-found.ensures.looks

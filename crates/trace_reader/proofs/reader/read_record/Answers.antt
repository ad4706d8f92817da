use Rattle.std.proofs.lemmas.Result.{err_from_is_err_and}
use Rattle.trace_reader.proofs.Calling.{event_failed}
use Rattle.trace_reader.proofs.reader.read_record.Goals as goal

pub returns-in_err-read_write-in-1-clause-told : goal.returns-in_err-read_write-in-1-clause-told
returns-in_err-read_write-in-1-clause-told g c =
    let p = err_from_is_err_and c.from_residual-in_err-read_write-in-1.result c.from_residual-in_err-read_write-in-1.ensures.1 in
    rw (p.1, p.2) (event_failed c.args.limit c.args.whole 1 _ _ _ c.fill.new.piece c.in_err-read_write-in-1.field-0.0 c.requires c.if-whole-limit.false c.fill.auto.piece c.in-1.is c.in_ok-fill.ensures.told c.in_err-read_write-in-1.ensures.told)

pub returns-in_err-read_fetch-in-3-clause-told : goal.returns-in_err-read_fetch-in-3-clause-told
returns-in_err-read_fetch-in-3-clause-told g c =
    let p = err_from_is_err_and c.from_residual-in_err-read_fetch-in-3.result c.from_residual-in_err-read_fetch-in-3.ensures.1 in
    rw (p.1, p.2) (event_failed c.args.limit c.args.whole 3 _ _ _ c.fill.new.piece c.in_err-read_fetch-in-3.field-0.0 c.requires c.if-whole-limit.false c.fill.auto.piece c.in-3.is c.in_ok-fill.ensures.told c.in_err-read_fetch-in-3.ensures.told)

use Rattle.std.proofs.Common.{◌≡◌, ◌∷◌, arith}
use Rattle.std.proofs.lemmas.Result.{err_from_is_err_and}
use Rattle.recon_bytes.specs.Field.{field}
use Rattle.trace_reader.specs.Trace.{IsFetchLength}
use Rattle.trace_reader.proofs.Writing.{fetch_failed, fetch_length_bad, fetch_whole, field_read}
use Rattle.trace_reader.proofs.pieces.read_fetch.Goals as goal

pub returns-in_err-fill-clause-told : goal.returns-in_err-fill-clause-told
returns-in_err-fill-clause-told g c =
    let p = err_from_is_err_and c.from_residual.result c.from_residual.ensures.1 in
    rw (p.1, p.2) (fetch_failed (Unit {0}) _ _ c.fill.new.piece c.in_err-fill.field-0.0 c.fill.auto.piece c.in_err-fill.ensures.told)

pub returns-then-len-eq0-clause-told : goal.returns-then-len-eq0-clause-told
returns-then-len-eq0-clause-told g c =
    let is : c.unwrap-len.result ≡ field 4 (3 ∷ c.fill.new.piece) 9 =
    field_read _ 3 4 9 _ c.fill.new.piece _ c.u32_at.ensures c.unwrap-len.ensures in
    fetch_length_bad _ _ c.fill.new.piece c.unwrap-len.result c.fill.auto.piece is c.then-len-eq0.either c.in_ok-fill.ensures.told

pub returns-clause-told : goal.returns-clause-told
returns-clause-told g c =
    let is : c.unwrap-len.result ≡ field 4 (3 ∷ c.fill.new.piece) 9 =
    field_read _ 3 4 9 _ c.fill.new.piece _ c.u32_at.ensures c.unwrap-len.ensures in
    let at : c.unwrap-at.result ≡ field 8 (3 ∷ c.fill.new.piece) 1 =
    field_read _ 3 8 1 _ c.fill.new.piece _ c.u64_at.ensures c.unwrap-at.ensures in
    let good : IsFetchLength c.unwrap-len.result = (omega arith, omega arith) in
    fetch_whole _ _ c.fill.new.piece c.unwrap-at.result c.unwrap-len.result c.fill.auto.piece c.in_ok-fill.ensures.lawful at is good c.in_ok-fill.ensures.told

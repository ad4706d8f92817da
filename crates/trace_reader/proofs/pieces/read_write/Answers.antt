use Rattle.std.proofs.Common.{◌≡◌, ◌∷◌, arith}
use Rattle.std.proofs.lemmas.Result.{err_from_is_err_and}
use Rattle.recon_bytes.specs.Field.{field}
use Rattle.trace_reader.specs.Trace.{IsWriteLength}
use Rattle.trace_reader.proofs.Writing.{write_failed, length_bad, bytes_failed, write_whole, field_read}
use Rattle.trace_reader.proofs.pieces.read_write.Goals as goal

pub returns-in_err-fill-clause-told : goal.returns-in_err-fill-clause-told
returns-in_err-fill-clause-told g c =
    let p = err_from_is_err_and c.from_residual.result c.from_residual.ensures.1 in
    rw (p.1, p.2) (write_failed (Unit {0}) _ _ c.fill.new.piece c.in_err-fill.field-0.0 c.fill.auto.piece c.in_err-fill.ensures.told)

pub returns-then-len-eq0-clause-told : goal.returns-then-len-eq0-clause-told
returns-then-len-eq0-clause-told g c =
    let is : c.unwrap-len.result ≡ field 4 (1 ∷ c.fill.new.piece) 11 =
    field_read _ 1 4 11 _ c.fill.new.piece _ c.u32_at.ensures c.unwrap-len.ensures in
    length_bad _ _ c.fill.new.piece c.unwrap-len.result c.fill.auto.piece is c.then-len-eq0.either c.in_ok-fill.ensures.told

pub returns-in_err-bytes-clause-told : goal.returns-in_err-bytes-clause-told
returns-in_err-bytes-clause-told g c =
    let is : c.unwrap-len.result ≡ field 4 (1 ∷ c.fill.new.piece) 11 =
    field_read _ 1 4 11 _ c.fill.new.piece _ c.u32_at.ensures c.unwrap-len.ensures in
    let p = err_from_is_err_and c.from_residual-in_err-bytes.result c.from_residual-in_err-bytes.ensures.1 in
    let good : IsWriteLength c.unwrap-len.result = (omega arith, omega arith) in
    rw (p.1, p.2) (bytes_failed _ _ _ c.fill.new.piece c.unwrap-len.result c.in_err-bytes.field-0.0 c.fill.auto.piece is good c.in_ok-fill.ensures.told c.in_err-bytes.ensures.told)

pub returns-clause-told : goal.returns-clause-told
returns-clause-told g c =
    let is : c.unwrap-len.result ≡ field 4 (1 ∷ c.fill.new.piece) 11 =
    field_read _ 1 4 11 _ c.fill.new.piece _ c.u32_at.ensures c.unwrap-len.ensures in
    let submitter : c.unwrap-submitter.result ≡ field 2 (1 ∷ c.fill.new.piece) 1 =
    field_read _ 1 2 1 _ c.fill.new.piece _ c.u16_at.ensures c.unwrap-submitter.ensures in
    let at : c.unwrap-at.result ≡ field 8 (1 ∷ c.fill.new.piece) 3 =
    field_read _ 1 8 3 _ c.fill.new.piece _ c.u64_at.ensures c.unwrap-at.ensures in
    let good : IsWriteLength c.unwrap-len.result = (omega arith, omega arith) in
    write_whole _ _ _ c.fill.new.piece c.in_ok-bytes.bytes c.unwrap-submitter.result c.unwrap-at.result c.unwrap-len.result c.fill.auto.piece c.in_ok-fill.ensures.lawful submitter at is good c.in_ok-fill.ensures.told c.in_ok-bytes.ensures.told

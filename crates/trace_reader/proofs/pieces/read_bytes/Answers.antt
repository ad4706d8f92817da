use Rattle.std.proofs.Common.{◌≡◌, length, arith}
use Rattle.trace_reader.proofs.Filling.{bytes_read}
use Rattle.trace_reader.proofs.pieces.read_bytes.Goals as goal

pub returns-clause-told : goal.returns-clause-told
returns-clause-told g c =
    let a = c.in-Ok.ensures.len in
    let b = c.in-Ok.ensures.items in
    let d = c.deref_mut.ensures.len in
    let e = c.deref_mut.ensures.value in
    let f = c.fill.auto.piece in
    let h = c.in-Ok.bytes.ok in
    let i : c.in-Ok.bytes.len ≡ length c.fill.new.piece = omega arith in
    let j : length c.fill.new.piece ≡ c.args.len = omega arith in
    bytes_read _ _ c.args.len c.in-Ok.bytes.len c.fill.new.piece c.in-Ok.bytes.items c.from.result c.from.ensures i j c.in_ok-fill.ensures.lawful c.in_ok-fill.ensures.told

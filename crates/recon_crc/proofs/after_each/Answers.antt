use Rattle.std.proofs.Common.{arith}
use Rattle.recon_crc.proofs.Slicing.{register_after-place}
use Rattle.recon_crc.proofs.after_each.Goals as goal

pub loop-byte-preserved : goal.loop-byte-preserved
loop-byte-preserved c =
    let e = register_after-place c.loop-byte.register c.loop-byte.byte-index c.args.s.now c.loop-byte-test.true (omega (arith, c.type_inv.s c.loop-byte.byte-index)) in
    cc (e, c.through.ensures, c.from.ensures, c.loop-byte.invariant)

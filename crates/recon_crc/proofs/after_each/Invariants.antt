-- What is left decides: the register after the bytes that are left, from here, is the register after all of them.
use Rattle.std.proofs.Common.{◌≡◌, drop}
use Rattle.recon_crc.specs.Checksum.{register_after}
use Rattle.recon_crc.proofs.after_each.Given as goal

abbrev pub invariant-loop-byte : goal.invariant-loop-byte
invariant-loop-byte l = register_after l.register (drop l.byte-index l.s) ≡ register_after l.fn.start l.fn.s

-- What is left decides: the register after the bytes that are left, from here, is the register after all of them.
use Rattle.std.proofs.Common.{◌≡◌, length}
use Rattle.recon_crc.specs.Checksum.{register_after}
use Rattle.recon_crc.proofs.register.Given as goal

abbrev pub invariant-loop-rest : goal.invariant-loop-rest
invariant-loop-rest l = register_after l.register l.rest ≡ register_after l.fn.start l.fn.s

abbrev pub decreases-loop-rest : goal.decreases-loop-rest
decreases-loop-rest l = length l.rest

use Rattle.std.proofs.Common.{◌∙◌}
use Rattle.recon_crc.proofs.Slicing.{register_after-first}
use Rattle.recon_crc.proofs.register.Goals as goal

pub loop-rest-preserved : goal.loop-rest-preserved
loop-rest-preserved c =
    register_after-first c.loop-rest.register c.after_sixteen-register.result 16 c.loop-rest.rest.now c.loop-rest-test.true c.after_sixteen-register.ensures
    ∙ c.loop-rest.invariant

use Rattle.std.proofs.Common.{length}
use Rattle.recon_lanes.proofs.Steps.{least_from_front}
use Rattle.recon_lanes.proofs.difference.first_difference.Goals as goal

pub loop-place-init : goal.loop-place-init
loop-place-init c =
    least_from_front c.args.a.now c.args.b.now c.equal_front-place.result (length c.args.a.now)
    c.equal_front-place.ensures.within c.equal_front-place.ensures.equal

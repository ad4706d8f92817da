use Rattle.std.proofs.Common.{◌+◌, ◌≤◌, length, arith}
use Rattle.recon_lanes.proofs.Steps.{front_goes_on}
use Rattle.recon_lanes.proofs.difference.equal_front.Goals as goal

pub loop-front-preserved : goal.loop-front-preserved
loop-front-preserved c =
    let room : c.loop-front.front + 64 ≤ length c.args.a.now = omega (arith, c.loop-front-test.true, c.loop-front.invariant.0) in (
      room,
      front_goes_on c.args.a.now c.args.b.now c.loop-front.front 64 c.requires room
          c.loop-front.invariant.1 (c.equal_lanes.ensures c.if-equal_lanes.true),
    )

use Rattle.std.proofs.Common.{◌<◌, arith}
use Rattle.recon_lanes.proofs.Eights.{one_more}
use Rattle.recon_lanes.proofs.eight.Eight.push.Goals as goal

pub returns-clause-takes : goal.returns-clause-takes
returns-clause-takes c =
    let room : c.self.inside.count < 8 = omega (arith, c.self.invariant, c.if-self-eq8.false) in
    one_more (λ b. b.now) c.self.inside.blocks c.self.inside.size c.self.inside.count c.args.block c.args.self.now room c.self.told c.self.view_is

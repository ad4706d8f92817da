use Rattle.std.proofs.Common.{arith}
use Rattle.std.proofs.lemmas.Bool.{eqb-true}
use Rattle.recon_lanes.proofs.Lanes.{lanes_equal}
use Rattle.recon_lanes.proofs.difference.equal_lanes.Goals as goal

pub returns : goal.returns
returns c none i inside = lanes_equal 64 c.args.a.now c.args.b.now (omega arith) c.requires.a c.requires.b (eqb-true _ 0 none) i inside

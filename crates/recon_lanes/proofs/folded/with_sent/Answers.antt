use Rattle.std.proofs.Common.{◌≡◌, subst, arith}
use Rattle.recon_lanes.proofs.Tails.{Sums, length-zeros, sums_none, sums_more, sums_all}
use Rattle.recon_lanes.proofs.folded.with_sent.Goals as goal

pub loop-i-init : goal.loop-i-init
loop-i-init c = sums_none c.args.before.now c.args.bytes.now _ (length-zeros 418)

pub loop-i-preserved : goal.loop-i-preserved
loop-i-preserved c = sums_more c.args.before.now c.args.bytes.now c.loop-i.sums c.loop-i.i c.loop-i.invariant (omega arith) c.requires

pub returns : goal.returns
returns c =
    let all : c.loop-i.i ≡ 418 = omega arith in
    sums_all c.args.before.now c.args.bytes.now c.loop-i.sums c.requires (subst (Sums c.args.before.now c.args.bytes.now c.loop-i.sums) all c.loop-i.invariant)

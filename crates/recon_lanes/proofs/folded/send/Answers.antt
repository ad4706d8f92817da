use Rattle.std.proofs.Common.{◌≡◌, length, subst, arith}
use Rattle.recon_lanes.specs.Folded.{Folds}
use Rattle.recon_lanes.proofs.Folds.{folds_none, folds_more}
use Rattle.recon_lanes.proofs.folded.send.Goals as goal

pub loop-i-init : goal.loop-i-init
loop-i-init c = folds_none c.args.buffer.now c.args.bytes.now c.requires.bytes

pub loop-i-preserved : goal.loop-i-preserved
loop-i-preserved c =
    folds_more c.args.buffer.now c.loop-i.buffer c.args.bytes.now c.loop-i.i c.loop-i.invariant c.loop-i-test.true
    (omega (arith, c.loop-i.invariant.long)) (λ i. omega (arith, c.type_inv.bytes i))

pub returns : goal.returns
returns c =
    let all : c.loop-i.i ≡ length c.args.bytes.now = omega arith in
    subst (Folds c.args.buffer.now c.loop-i.buffer c.args.bytes.now) all c.loop-i.invariant

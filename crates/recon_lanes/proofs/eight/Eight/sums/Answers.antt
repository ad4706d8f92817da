use Rattle.std.proofs.Common.{◌≡◌, ◌<◌, ◌≤◌, [], length, get_or, ap, ◌∙◌, arith}
use Rattle.recon_crc.specs.Checksum.{crc32c_of}
use Rattle.recon_lanes.proofs.Eights.{summed_next, all_summed}
use Rattle.recon_lanes.proofs.eight.Eight.sums.Goals as goal

pub loop-place-preserved : goal.loop-place-preserved
loop-place-preserved c =
    let inside : c.loop-place.place < length c.args.self.now.blocks = omega (arith, c.loop-place-test.true, c.standing-count.ensures.count) in
    let most : length c.args.self.now.blocks ≤ 8 = omega (arith, c.standing-count.ensures.count, c.standing-count.ensures.most) in
    let here : c.sum_at.result ≡ crc32c_of (get_or c.args.self.now.blocks c.loop-place.place []) =
    c.sum_at.ensures ∙ ap (λ n. crc32c_of (get_or c.args.self.now.blocks n [])) (omega (arith, c.loop-place-test.true)) in
    summed_next c.args.self.now.blocks c.loop-place.place c.sum_at.result c.loop-place.sums inside most c.loop-place.invariant here

pub returns-clause-sums : goal.returns-clause-sums
returns-clause-sums c =
    let all : c.loop-place.place ≡ length c.args.self.now.blocks =
    omega (arith, c.loop-place.auto.place-end, c.loop-place-test.false, c.standing-count.ensures.count) in
    all_summed c.args.self.now.blocks c.loop-place.place c.loop-place.sums all c.loop-place.invariant

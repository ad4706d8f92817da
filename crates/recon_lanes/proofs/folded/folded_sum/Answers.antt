use Rattle.std.proofs.Common.{ℕ, List, ◌≡◌, ◌≤◌, ◌-◌, length, take, drop, refl, ap, ap₂, ◌+◌, ◌∙◌, length-drop, arith}
use Rattle.std.proofs.lemmas.List.{length-take, take_all}
use Rattle.recon_lanes.specs.Folded.{laid, inverted}
use Rattle.recon_crc.specs.Checksum.{crc32c_of}
use Rattle.recon_lanes.proofs.Tails.{left_begins, left_goes_on, left_ends}
use Rattle.recon_lanes.proofs.folded.folded_sum.Goals as goal

pub loop-rest-init : goal.loop-rest-init
loop-rest-init c = left_begins c.args.bytes.now c.invert.new.bytes c.if-bytes-lt-LONG.false c.invert.ensures

pub send-requires-clause-few : goal.send-requires-clause-few
send-requires-clause-few c = omega (arith, length-take 4096 c.loop-rest.rest.now)

pub loop-rest-preserved : goal.loop-rest-preserved
loop-rest-preserved c =
    left_goes_on c.args.bytes.now c.loop-rest.buffer c.send.new.buffer c.keep_last.new.buffer c.loop-rest.rest.now c.split_at.result.0.now c.split_at.result.1.now
    c.loop-rest.invariant c.loop-rest-test.true c.split_at.ensures.front c.split_at.ensures.back c.send.ensures c.keep_last.ensures.last c.keep_last.ensures.bytes c.keep_last.array_long

pub returns : goal.returns
returns c =
    let rest : List ℕ = c.loop-rest.rest.now in
    let last : ℕ = length rest - 418 in
    let inside : last ≤ length rest = omega arith in
    let count : last + 418 - last ≡ 418 = omega arith in
    let end : take (length rest - last) (drop last rest) ≡ drop last rest = take_all (length rest - last) (drop last rest) (omega (arith, length-drop last rest)) in
    c.crc32c-2.ensures
    ∙ ap crc32c_of (c.last_bytes.ensures ∙ ap₂ (λ n l. laid (inverted (take n (drop last c.send-2.new.buffer))) l) count end)
    ∙ left_ends c.args.bytes.now c.loop-rest.buffer c.send-2.new.buffer rest last c.loop-rest.invariant refl (omega (arith, c.loop-rest-test.false)) c.send-2.ensures

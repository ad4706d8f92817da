use Rattle.std.proofs.Common.{◌≡◌, IfSome, Some, ◌∙◌, rules, subst}
use Rattle.std.specs.Option.{IsSomeAnd}
use Rattle.verdict.proofs.Answers.{on_err as if_err}
use Rattle.write_cache.specs.Cache.{overlaid}
use Rattle.recon_core.specs.Order.{HasSentOut}
use Rattle.commit_judge.specs.Index.{IndexStands}
use Rattle.recon_core.specs.Judged.{IsLeftOf}
use Rattle.recon_core.specs.Moments.{IsFlushedAs, LeavesAfter}
use Rattle.recon_core.specs.Sent.{IsAllOrPart, IsPlaceOf, LeavesBy}
use Rattle.recon_core.proofs.Settling.{judges_err, left_passed, left_unsent, looks_passed, looks_rejected, part_passed, passed_and, placed, reads_passed, reads_rejected, sent_passed, settled_passed, settled_rejected, stops_passed}
use Rattle.recon_core.proofs.Moments.{leaves_none, still_at_rest}
use Rattle.recon_core.proofs.judging.judge_pieces.Goals as goal

pub returns-in_err-judged-clause-judged : goal.returns-in_err-judged-clause-judged
returns-in_err-judged-clause-judged g c =
    judges_err g.D.Disk c.args.disk.now c.judge_within.new.disk c.args.cache.now c.args.index.now c.judge_within.new.index c.from_residual.result _
    c.from_residual.ensures.0
    (left_unsent (g.D.Disk.bytes c.args.disk.now) (g.D.Disk.bytes c.judge_within.new.disk) c.args.cache.now c.args.index.now
    c.judge_within.ensures.kept.bytes)
    c.judge_within.ensures.kept.len (search rules)

pub returns-in-Rejected-clause-judged : goal.returns-in-Rejected-clause-judged
returns-in-Rejected-clause-judged g c = record {
  settled = settled_rejected (g.D.Disk.bytes c.args.disk.now) (g.D.Disk.bytes c.judge_within.new.disk) c.args.cache.now c.args.index.now
      c.judge_within.new.index c.in_ok-judged.judged
      (g.D.Disk.reads c.args.disk.now) (g.D.Disk.reads c.judge_within.new.disk) c.in-Rejected.finding c.in-Rejected.is
      c.judge_within.ensures.kept.bytes c.in_ok-judged.ensures.told;
  left = tt;
  reads = reads_rejected (g.D.Disk.bytes c.args.disk.now) c.args.index.now (g.D.Disk.reads c.args.disk.now) (g.D.Disk.reads c.judge_within.new.disk)
      c.in-Rejected.finding;
  len = c.judge_within.ensures.kept.len;
  faults = c.in_ok-judged.ensures.kept.faults;
}

pub returns-in_err-let_through-in-Passed-clause-judged : goal.returns-in_err-let_through-in-Passed-clause-judged
returns-in_err-let_through-in-Passed-clause-judged g c =
    let before = g.D.Disk.bytes c.args.disk.now in
    let first = g.D.Disk.reads c.args.disk.now in
    let second = g.D.Disk.reads c.judge_within.new.disk in
    let last = g.D.Disk.bytes c.let_through.new.disk in
    let m = c.args.cache.now in
    judges_err g.D.Disk c.args.disk.now c.let_through.new.disk m c.args.index.now c.judge_within.new.index
    c.from_residual-in_err-let_through-in-Passed.result _ c.from_residual-in_err-let_through-in-Passed.ensures.0
    (left_passed before last m c.args.index.now c.judge_within.new.index first second c.in-Passed.generation c.in-Passed.blocks c.in-Passed.hot
    (passed_and (λ image. IsSomeAnd last (IsAllOrPart m image)) before (g.D.Disk.bytes c.judge_within.new.disk) m c.args.index.now
    c.judge_within.new.index c.in_ok-judged.judged c.superblock.result.now
    first second c.in-Passed.generation c.in-Passed.blocks c.in-Passed.hot c.in-Passed.is c.judge_within.ensures.kept.bytes c.superblock.ensures
    c.in_ok-judged.ensures.told c.in_err-let_through-in-Passed.ensures.device.left))
    (c.let_through.ensures.device.len ∙ c.judge_within.ensures.kept.len) (search rules)

pub returns-in_err-let_through-in-Passed-clause-part : goal.returns-in_err-let_through-in-Passed-clause-part
returns-in_err-let_through-in-Passed-clause-part g c =
    if_err c.from_residual-in_err-let_through-in-Passed.result
    (part_passed (g.D.Disk.bytes c.args.disk.now) (g.D.Disk.bytes c.judge_within.new.disk) (g.D.Disk.len c.args.disk.now) c.args.cache.now
    c.args.index.now c.judge_within.new.index c.in_ok-judged.judged c.superblock.result.now c.in-Passed.generation c.in-Passed.blocks c.in-Passed.hot
    (g.D.Disk.sent c.args.disk.now) (g.D.Disk.sent c.judge_within.new.disk) (g.D.Disk.sent c.let_through.new.disk)
    c.in-Passed.is c.judge_within.ensures.kept.bytes c.superblock.ensures c.judge_within.ensures.kept.sent
    (g.met.D.Disk.told_length c.args.disk.now) c.in_ok-judged.ensures.room c.in_ok-judged.ensures.place
    c.in_err-let_through-in-Passed.ensures.part)

pub returns-in_ok-let_through-in-Passed-clause-judged : goal.returns-in_ok-let_through-in-Passed-clause-judged
returns-in_ok-let_through-in-Passed-clause-judged g c =
    let before = g.D.Disk.bytes c.args.disk.now in
    let first = g.D.Disk.reads c.args.disk.now in
    let second = g.D.Disk.reads c.judge_within.new.disk in
    let last = g.D.Disk.bytes c.let_through.new.disk in
    let m = c.args.cache.now in
    record {
      settled = settled_passed before last m c.args.index.now c.judge_within.new.index first second c.in-Passed.generation c.in-Passed.blocks
          c.in-Passed.hot
          (passed_and (λ image. last ≡ Some (overlaid m 0 image)) before (g.D.Disk.bytes c.judge_within.new.disk) m c.args.index.now
          c.judge_within.new.index c.in_ok-judged.judged c.superblock.result.now
          first second c.in-Passed.generation c.in-Passed.blocks c.in-Passed.hot c.in-Passed.is c.judge_within.ensures.kept.bytes
          c.superblock.ensures c.in_ok-judged.ensures.told c.in_ok-let_through-in-Passed.ensures.device.made);
      left = tt;
      reads = reads_passed before m c.args.index.now c.judge_within.new.index c.in_ok-judged.judged first second
          (g.D.Disk.reads c.let_through.new.disk) c.in-Passed.generation c.in-Passed.blocks c.in-Passed.hot
          c.in-Passed.is c.let_through.ensures.device.reads c.in_ok-judged.ensures.told;
      len = c.let_through.ensures.device.len ∙ c.judge_within.ensures.kept.len;
      faults = c.in_ok-let_through-in-Passed.ensures.device.cause.fine ∙ c.in_ok-judged.ensures.kept.faults;
    }

pub returns-in_ok-let_through-in-Passed-clause-order : goal.returns-in_ok-let_through-in-Passed-clause-order
returns-in_ok-let_through-in-Passed-clause-order g c =
    let m = c.args.cache.now in
    let begun = g.D.Disk.sent c.args.disk.now in
    let last = g.D.Disk.sent c.let_through.new.disk in
    sent_passed (g.D.Disk.bytes c.args.disk.now) m c.args.index.now c.in-Passed.generation c.in-Passed.blocks c.in-Passed.hot begun last
    (placed (λ image. HasSentOut m (overlaid m 0 image) begun last) (g.D.Disk.bytes c.args.disk.now) (g.D.Disk.bytes c.judge_within.new.disk)
    (g.D.Disk.len c.args.disk.now) m c.args.index.now c.judge_within.new.index c.in_ok-judged.judged
    c.superblock.result.now c.in-Passed.generation c.in-Passed.blocks c.in-Passed.hot c.in-Passed.is c.judge_within.ensures.kept.bytes
    c.superblock.ensures (g.met.D.Disk.told_length c.args.disk.now) c.in_ok-judged.ensures.room c.in_ok-judged.ensures.place
    (subst (λ sent. IfSome (g.D.Disk.bytes c.judge_within.new.disk)
    (λ image. IsPlaceOf m c.superblock.result.now image → HasSentOut m (overlaid m 0 image) sent last)) c.judge_within.ensures.kept.sent
    c.in_ok-let_through-in-Passed.ensures.order))

pub returns-in_err-judged-clause-stops : goal.returns-in_err-judged-clause-stops
returns-in_err-judged-clause-stops g c =
    leaves_none (λ image. IndexStands image c.args.index.now) (IsLeftOf c.args.cache.now) (g.D.Disk.bytes c.args.disk.now) (g.D.Disk.moments c.args.disk.now) (g.D.Disk.moments c.judge_within.new.disk)
    c.judge_within.ensures.kept.moments

pub returns-in-Rejected-clause-stops : goal.returns-in-Rejected-clause-stops
returns-in-Rejected-clause-stops g c =
    leaves_none (λ image. IndexStands image c.args.index.now) (IsLeftOf c.args.cache.now) (g.D.Disk.bytes c.args.disk.now) (g.D.Disk.moments c.args.disk.now) (g.D.Disk.moments c.judge_within.new.disk)
    c.judge_within.ensures.kept.moments

pub returns-in-Rejected-clause-rest : goal.returns-in-Rejected-clause-rest
returns-in-Rejected-clause-rest g c =
    still_at_rest (g.D.Disk.bytes c.args.disk.now) (g.D.Disk.bytes c.judge_within.new.disk) (g.D.Disk.moments c.args.disk.now) (g.D.Disk.moments c.judge_within.new.disk)
    c.judge_within.ensures.kept.bytes c.judge_within.ensures.kept.moments

pub returns-in_err-let_through-in-Passed-clause-stops : goal.returns-in_err-let_through-in-Passed-clause-stops
returns-in_err-let_through-in-Passed-clause-stops g c =
    let begun = g.D.Disk.moments c.args.disk.now in
    let now = g.D.Disk.moments c.let_through.new.disk in
    let first = g.D.Disk.reads c.args.disk.now in
    let second = g.D.Disk.reads c.judge_within.new.disk in
    let m = c.args.cache.now in
    stops_passed (g.D.Disk.bytes c.args.disk.now) m c.args.index.now c.judge_within.new.index first second c.in-Passed.generation c.in-Passed.blocks c.in-Passed.hot
    begun now
    (passed_and (λ image. IfSome begun (λ moments. IsFlushedAs image moments → LeavesAfter (IsAllOrPart m image) moments now)) (g.D.Disk.bytes c.args.disk.now)
    (g.D.Disk.bytes c.judge_within.new.disk) m c.args.index.now c.judge_within.new.index c.in_ok-judged.judged c.superblock.result.now first second
    c.in-Passed.generation c.in-Passed.blocks c.in-Passed.hot c.in-Passed.is c.judge_within.ensures.kept.bytes c.superblock.ensures
    c.in_ok-judged.ensures.told
    (subst (λ o. LeavesBy (IsPlaceOf m c.superblock.result.now) (IsAllOrPart m) (g.D.Disk.bytes c.judge_within.new.disk) o now) c.judge_within.ensures.kept.moments
    c.let_through.ensures.stops))

pub returns-in_ok-let_through-in-Passed-clause-stops : goal.returns-in_ok-let_through-in-Passed-clause-stops
returns-in_ok-let_through-in-Passed-clause-stops g c =
    let begun = g.D.Disk.moments c.args.disk.now in
    let now = g.D.Disk.moments c.let_through.new.disk in
    let first = g.D.Disk.reads c.args.disk.now in
    let second = g.D.Disk.reads c.judge_within.new.disk in
    let m = c.args.cache.now in
    stops_passed (g.D.Disk.bytes c.args.disk.now) m c.args.index.now c.judge_within.new.index first second c.in-Passed.generation c.in-Passed.blocks c.in-Passed.hot
    begun now
    (passed_and (λ image. IfSome begun (λ moments. IsFlushedAs image moments → LeavesAfter (IsAllOrPart m image) moments now)) (g.D.Disk.bytes c.args.disk.now)
    (g.D.Disk.bytes c.judge_within.new.disk) m c.args.index.now c.judge_within.new.index c.in_ok-judged.judged c.superblock.result.now first second
    c.in-Passed.generation c.in-Passed.blocks c.in-Passed.hot c.in-Passed.is c.judge_within.ensures.kept.bytes c.superblock.ensures
    c.in_ok-judged.ensures.told
    (subst (λ o. LeavesBy (IsPlaceOf m c.superblock.result.now) (IsAllOrPart m) (g.D.Disk.bytes c.judge_within.new.disk) o now) c.judge_within.ensures.kept.moments
    c.let_through.ensures.stops))

pub returns-in_ok-let_through-in-Passed-clause-rest : goal.returns-in_ok-let_through-in-Passed-clause-rest
returns-in_ok-let_through-in-Passed-clause-rest g c = λ rest. c.in_ok-let_through-in-Passed.ensures.rest

pub returns-in-Rejected-clause-looks : goal.returns-in-Rejected-clause-looks
returns-in-Rejected-clause-looks g c =
    looks_rejected (g.D.Disk.bytes c.args.disk.now) c.args.cache.now c.args.index.now c.args.steps.now c.judge_within.new.steps c.in-Rejected.finding

pub returns-in_ok-let_through-in-Passed-clause-looks : goal.returns-in_ok-let_through-in-Passed-clause-looks
returns-in_ok-let_through-in-Passed-clause-looks g c =
    looks_passed (g.D.Disk.bytes c.args.disk.now) c.args.cache.now c.args.index.now c.in_ok-judged.judged c.args.steps.now c.judge_within.new.steps
    c.in-Passed.generation c.in-Passed.blocks c.in-Passed.hot c.in-Passed.is c.in_ok-judged.ensures.looks

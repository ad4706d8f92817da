use Rattle.std.proofs.Common.{◌≡◌, ◌≤◌, inl, inr, IfSome, IsSomeAnd, option_map, length, refl, sym, ap, ◌∙◌, arith, subst}
use Rattle.verdict.specs.Image.{written}
use Rattle.std.proofs.lemmas.Result.{on_err_weaker, on_ok_weaker}
use Rattle.verdict.proofs.Answers.{on_err as if_err}
use Rattle.recon_disk.specs.Outside.{HasCause, counted}
use Rattle.recon_disk.proofs.Sending.{if_ok}
use Rattle.recon_core.specs.Sent.{IsAllOrPart, IsPlaceOf}
use Rattle.recon_core.proofs.Told.{left_all, left_but_place, left_part, made_too, none_at, place_fails, stops_through, told_commit, told_settled}
use Rattle.recon_core.proofs.Ordered.{settled_out, committed_out, flush_fails, last_flush_fails, out_in_part, place_write_fails}
use Rattle.recon_core.proofs.Moments.{at_rest, leaves_either, leaves_flushed, leaves_placed, leaves_same, leaves_sent}
use Rattle.recon_core.proofs.send.let_through.Goals as goal

pub returns-in_err-send_pieces-clause-device : goal.returns-in_err-send_pieces-clause-device
returns-in_err-send_pieces-clause-device g c =
    stops_through g.D.Disk c.args.disk.now c.send_pieces.new.disk c.args.cache.now c.args.superblock.now c.from_residual.result c.from_residual.ensures.0
    (left_part (g.D.Disk.bytes c.args.disk.now) (g.D.Disk.bytes c.send_pieces.new.disk) c.args.cache.now c.args.superblock.now c.in_err-send_pieces.ensures.device.left)
    c.send_pieces.ensures.device.len c.in_err-send_pieces.ensures.device.cause.grows c.in_err-send_pieces.ensures.device.cause.failed c.send_pieces.ensures.reads

pub returns-in_err-settle_disk-clause-device : goal.returns-in_err-settle_disk-clause-device
returns-in_err-settle_disk-clause-device g c =
    let m = c.args.cache.now in
    let same = c.in_ok-send_pieces.ensures.device.cause.fine in
    stops_through g.D.Disk c.args.disk.now c.settle_disk.new.disk m c.args.superblock.now c.from_residual-in_err-settle_disk.result c.from_residual-in_err-settle_disk.ensures.0
    (left_but_place (g.D.Disk.bytes c.args.disk.now) (g.D.Disk.bytes c.send_pieces.new.disk) (g.D.Disk.bytes c.settle_disk.new.disk) (g.D.Disk.len c.args.disk.now) m c.args.superblock.now
    (g.met.D.Disk.told_length c.args.disk.now) c.requires.place c.in_ok-send_pieces.ensures.device.made c.settle_disk.ensures.bytes)
    (c.settle_disk.ensures.len ∙ c.send_pieces.ensures.device.len)
    (subst (λ k. k ≤ g.D.Disk.faults c.settle_disk.new.disk) same c.in_err-settle_disk.ensures.cause.grows)
    (subst (λ k. counted k ≤ g.D.Disk.faults c.settle_disk.new.disk) same c.in_err-settle_disk.ensures.cause.failed)
    (c.settle_disk.ensures.reads ∙ c.send_pieces.ensures.reads)

pub returns-then-not-commit-clause-device : goal.returns-then-not-commit-clause-device
returns-then-not-commit-clause-device g c =
    let m = c.args.cache.now in
    let same = c.in_ok-send_pieces.ensures.device.cause.fine in
    record {
      made = made_too (g.D.Disk.bytes c.args.disk.now) (g.D.Disk.bytes c.send_pieces.new.disk) (g.D.Disk.bytes c.settle_disk.new.disk) m c.args.superblock.now
          (told_settled (g.D.Disk.bytes c.args.disk.now) (g.D.Disk.bytes c.send_pieces.new.disk) (g.D.Disk.len c.args.disk.now) m c.args.superblock.now (g.met.D.Disk.told_length c.args.disk.now) c.requires.place
          (none_at m 65536 4096 c.touches-commit.result c.touches-commit.ensures c.if-not-commit.true) c.in_ok-send_pieces.ensures.device.made) c.settle_disk.ensures.bytes;
      left = tt;
      len = c.settle_disk.ensures.len ∙ c.send_pieces.ensures.device.len;
      cause = record {
        grows = subst (λ k. k ≤ g.D.Disk.faults c.settle_disk.new.disk) same c.in_ok-settle_disk.ensures.cause.grows;
        failed = tt;
        fine = c.in_ok-settle_disk.ensures.cause.fine ∙ same;
      };
      reads = c.settle_disk.ensures.reads ∙ c.send_pieces.ensures.reads;
    }

pub returns-in_err-write-clause-device : goal.returns-in_err-write-clause-device
returns-in_err-write-clause-device g c =
    let m = c.args.cache.now in
    let same = c.in_ok-settle_disk.ensures.cause.fine ∙ c.in_ok-send_pieces.ensures.device.cause.fine in
    stops_through g.D.Disk c.args.disk.now c.write.new.self m c.args.superblock.now c.from_residual-in_err-write.result c.from_residual-in_err-write.ensures.0
    (place_fails (g.D.Disk.bytes c.args.disk.now) (g.D.Disk.bytes c.settle_disk.new.disk) (g.D.Disk.bytes c.write.new.self) (g.D.Disk.len c.args.disk.now) m c.args.superblock.now
    (g.met.D.Disk.told_length c.args.disk.now) c.requires.place (omega arith) (c.settle_disk.ensures.bytes ∙ c.in_ok-send_pieces.ensures.device.made) c.in_err-write.ensures.partly)
    (c.write.ensures.len ∙ c.settle_disk.ensures.len ∙ c.send_pieces.ensures.device.len)
    (subst (λ k. k ≤ g.D.Disk.faults c.write.new.self) same c.in_err-write.ensures.cause.grows)
    (subst (λ k. counted k ≤ g.D.Disk.faults c.write.new.self) same c.in_err-write.ensures.cause.failed)
    (c.write.ensures.reads ∙ c.settle_disk.ensures.reads ∙ c.send_pieces.ensures.reads)

pub returns-clause-device : goal.returns-clause-device
returns-clause-device g c =
    let m = c.args.cache.now in
    let same = c.in_ok-write.ensures.cause.fine ∙ c.in_ok-settle_disk.ensures.cause.fine ∙ c.in_ok-send_pieces.ensures.device.cause.fine in
    let all = told_commit (g.D.Disk.bytes c.args.disk.now) (g.D.Disk.bytes c.settle_disk.new.disk) (g.D.Disk.bytes c.write.new.self) (g.D.Disk.len c.args.disk.now) m c.args.superblock.now (g.met.D.Disk.told_length c.args.disk.now)
    c.requires.place (c.settle_disk.ensures.bytes ∙ c.in_ok-send_pieces.ensures.device.made) c.in_ok-write.ensures.written in
    record {
      made = if_ok c.settle_disk-2.result (made_too (g.D.Disk.bytes c.args.disk.now) (g.D.Disk.bytes c.write.new.self) (g.D.Disk.bytes c.settle_disk-2.new.disk) m c.args.superblock.now all c.settle_disk-2.ensures.bytes);
      left = if_err c.settle_disk-2.result (left_all (g.D.Disk.bytes c.args.disk.now) (g.D.Disk.bytes c.write.new.self) (g.D.Disk.bytes c.settle_disk-2.new.disk) m c.args.superblock.now all c.settle_disk-2.ensures.bytes);
      len = c.settle_disk-2.ensures.len ∙ c.write.ensures.len ∙ c.settle_disk.ensures.len ∙ c.send_pieces.ensures.device.len;
      cause = subst (λ k. HasCause k (g.D.Disk.faults c.settle_disk-2.new.disk) c.settle_disk-2.result) same c.settle_disk-2.ensures.cause;
      reads = c.settle_disk-2.ensures.reads ∙ c.write.ensures.reads ∙ c.settle_disk.ensures.reads ∙ c.send_pieces.ensures.reads;
    }

pub returns-then-not-commit-clause-order : goal.returns-then-not-commit-clause-order
returns-then-not-commit-clause-order g c =
    settled_out (g.D.Disk.bytes c.args.disk.now) c.args.cache.now c.args.superblock.now (g.D.Disk.sent c.args.disk.now) (g.D.Disk.sent c.send_pieces.new.disk) (g.D.Disk.sent c.settle_disk.new.disk)
    c.touches-commit.result c.if-not-commit.true c.touches-commit.ensures c.in_ok-send_pieces.ensures.order c.in_ok-settle_disk.ensures.sent

pub returns-clause-order : goal.returns-clause-order
returns-clause-order g c =
    on_ok_weaker c.settle_disk-2.result (committed_out (g.D.Disk.bytes c.args.disk.now) c.args.cache.now (g.D.Disk.sent c.args.disk.now) (g.D.Disk.sent c.send_pieces.new.disk)
    (g.D.Disk.sent c.settle_disk.new.disk) (g.D.Disk.sent c.write.new.self) (g.D.Disk.sent c.settle_disk-2.new.disk) c.args.superblock.now c.touches-commit.result c.if-not-commit.false c.touches-commit.ensures
    c.in_ok-send_pieces.ensures.order c.in_ok-settle_disk.ensures.sent c.in_ok-write.ensures.sent)
    c.settle_disk-2.ensures.sent

pub returns-in_err-send_pieces-clause-part : goal.returns-in_err-send_pieces-clause-part
returns-in_err-send_pieces-clause-part g c =
    if_err c.from_residual.result (out_in_part (g.D.Disk.bytes c.args.disk.now) (IsPlaceOf c.args.cache.now c.args.superblock.now) c.args.cache.now (g.D.Disk.sent c.args.disk.now) (g.D.Disk.sent c.send_pieces.new.disk)
    c.touches-commit.result c.touches-commit.ensures c.in_err-send_pieces.ensures.part)

pub returns-in_err-settle_disk-clause-part : goal.returns-in_err-settle_disk-clause-part
returns-in_err-settle_disk-clause-part g c =
    if_err c.from_residual-in_err-settle_disk.result (flush_fails (g.D.Disk.bytes c.args.disk.now) (IsPlaceOf c.args.cache.now c.args.superblock.now) c.args.cache.now (g.D.Disk.sent c.args.disk.now) (g.D.Disk.sent c.send_pieces.new.disk) (g.D.Disk.sent c.settle_disk.new.disk)
    c.touches-commit.result c.touches-commit.ensures c.in_ok-send_pieces.ensures.order c.in_err-settle_disk.ensures.unsent)

pub returns-in_err-write-clause-part : goal.returns-in_err-write-clause-part
returns-in_err-write-clause-part g c =
    if_err c.from_residual-in_err-write.result (place_write_fails (g.D.Disk.bytes c.args.disk.now) (IsPlaceOf c.args.cache.now c.args.superblock.now) c.args.cache.now (g.D.Disk.sent c.args.disk.now) (g.D.Disk.sent c.send_pieces.new.disk)
    (g.D.Disk.sent c.settle_disk.new.disk) (g.D.Disk.sent c.write.new.self) c.touches-commit.result c.if-not-commit.false c.touches-commit.ensures c.in_ok-send_pieces.ensures.order
    c.in_ok-settle_disk.ensures.sent c.in_err-write.ensures.unsent)

pub returns-clause-part : goal.returns-clause-part
returns-clause-part g c =
    on_err_weaker c.settle_disk-2.result (last_flush_fails (g.D.Disk.bytes c.args.disk.now) c.args.cache.now (g.D.Disk.sent c.args.disk.now) (g.D.Disk.sent c.send_pieces.new.disk)
    (g.D.Disk.sent c.settle_disk.new.disk) (g.D.Disk.sent c.write.new.self) (g.D.Disk.sent c.settle_disk-2.new.disk) c.args.superblock.now c.touches-commit.result c.if-not-commit.false c.touches-commit.ensures
    c.in_ok-send_pieces.ensures.order c.in_ok-settle_disk.ensures.sent c.in_ok-write.ensures.sent)
    c.settle_disk-2.ensures.unsent

pub returns-in_err-send_pieces-clause-stops : goal.returns-in_err-send_pieces-clause-stops
returns-in_err-send_pieces-clause-stops g c = (leaves_sent (IsPlaceOf c.args.cache.now c.args.superblock.now) (IsAllOrPart c.args.cache.now) c.args.cache.now (g.D.Disk.bytes c.args.disk.now) (g.D.Disk.moments c.args.disk.now) (g.D.Disk.moments c.send_pieces.new.disk) (λ image left part. inr part) c.send_pieces.ensures.stops)

pub returns-in_err-settle_disk-clause-stops : goal.returns-in_err-settle_disk-clause-stops
returns-in_err-settle_disk-clause-stops g c =
    leaves_same (IsPlaceOf c.args.cache.now c.args.superblock.now) (IsAllOrPart c.args.cache.now) (g.D.Disk.bytes c.args.disk.now) (g.D.Disk.moments c.args.disk.now) (g.D.Disk.moments c.send_pieces.new.disk) (g.D.Disk.moments c.settle_disk.new.disk) c.in_err-settle_disk.ensures.unsettled
    (leaves_sent (IsPlaceOf c.args.cache.now c.args.superblock.now) (IsAllOrPart c.args.cache.now) c.args.cache.now (g.D.Disk.bytes c.args.disk.now) (g.D.Disk.moments c.args.disk.now) (g.D.Disk.moments c.send_pieces.new.disk) (λ image left part. inr part) c.send_pieces.ensures.stops)

pub returns-then-not-commit-clause-stops : goal.returns-then-not-commit-clause-stops
returns-then-not-commit-clause-stops g c =
    (leaves_flushed (IsPlaceOf c.args.cache.now c.args.superblock.now) (IsAllOrPart c.args.cache.now) (g.D.Disk.bytes c.args.disk.now) (g.D.Disk.bytes c.send_pieces.new.disk) (g.D.Disk.moments c.args.disk.now) (g.D.Disk.moments c.send_pieces.new.disk) (g.D.Disk.moments c.settle_disk.new.disk) (left_but_place (g.D.Disk.bytes c.args.disk.now) (g.D.Disk.bytes c.send_pieces.new.disk) (g.D.Disk.bytes c.send_pieces.new.disk) (g.D.Disk.len c.args.disk.now) c.args.cache.now c.args.superblock.now (g.met.D.Disk.told_length c.args.disk.now) c.requires.place c.in_ok-send_pieces.ensures.device.made refl) c.in_ok-settle_disk.ensures.settled (leaves_sent (IsPlaceOf c.args.cache.now c.args.superblock.now) (IsAllOrPart c.args.cache.now) c.args.cache.now (g.D.Disk.bytes c.args.disk.now) (g.D.Disk.moments c.args.disk.now) (g.D.Disk.moments c.send_pieces.new.disk) (λ image left part. inr part) c.send_pieces.ensures.stops))

pub returns-then-not-commit-clause-rest : goal.returns-then-not-commit-clause-rest
returns-then-not-commit-clause-rest g c =
    at_rest (g.D.Disk.bytes c.send_pieces.new.disk) (g.D.Disk.bytes c.settle_disk.new.disk) (g.D.Disk.moments c.send_pieces.new.disk) (g.D.Disk.moments c.settle_disk.new.disk) c.in_ok-settle_disk.ensures.settled c.settle_disk.ensures.bytes

pub returns-in_err-write-clause-stops : goal.returns-in_err-write-clause-stops
returns-in_err-write-clause-stops g c = elim c.in_err-write.ensures.perhaps [
  | inl same ↦ leaves_same (IsPlaceOf c.args.cache.now c.args.superblock.now) (IsAllOrPart c.args.cache.now) (g.D.Disk.bytes c.args.disk.now) (g.D.Disk.moments c.args.disk.now) (g.D.Disk.moments c.settle_disk.new.disk) (g.D.Disk.moments c.write.new.self) same
      (leaves_flushed (IsPlaceOf c.args.cache.now c.args.superblock.now) (IsAllOrPart c.args.cache.now) (g.D.Disk.bytes c.args.disk.now) (g.D.Disk.bytes c.send_pieces.new.disk) (g.D.Disk.moments c.args.disk.now) (g.D.Disk.moments c.send_pieces.new.disk) (g.D.Disk.moments c.settle_disk.new.disk) (left_but_place (g.D.Disk.bytes c.args.disk.now) (g.D.Disk.bytes c.send_pieces.new.disk) (g.D.Disk.bytes c.send_pieces.new.disk) (g.D.Disk.len c.args.disk.now) c.args.cache.now c.args.superblock.now (g.met.D.Disk.told_length c.args.disk.now) c.requires.place c.in_ok-send_pieces.ensures.device.made refl) c.in_ok-settle_disk.ensures.settled (leaves_sent (IsPlaceOf c.args.cache.now c.args.superblock.now) (IsAllOrPart c.args.cache.now) c.args.cache.now (g.D.Disk.bytes c.args.disk.now) (g.D.Disk.moments c.args.disk.now) (g.D.Disk.moments c.send_pieces.new.disk) (λ image left part. inr part) c.send_pieces.ensures.stops))
  | inr more ↦
      (leaves_placed (IsPlaceOf c.args.cache.now c.args.superblock.now) (IsAllOrPart c.args.cache.now) (g.D.Disk.bytes c.args.disk.now) (g.D.Disk.bytes c.send_pieces.new.disk) (g.D.Disk.len c.args.disk.now) c.args.superblock.now (g.D.Disk.moments c.args.disk.now) (g.D.Disk.moments c.send_pieces.new.disk) (g.D.Disk.moments c.settle_disk.new.disk) (g.D.Disk.moments c.write.new.self) (subst (λ n. IfSome (g.D.Disk.bytes c.send_pieces.new.disk) (λ image. length image ≡ n)) c.send_pieces.ensures.device.len (g.met.D.Disk.told_length c.send_pieces.new.disk)) c.requires.place (omega arith) (left_but_place (g.D.Disk.bytes c.args.disk.now) (g.D.Disk.bytes c.send_pieces.new.disk) (g.D.Disk.bytes c.send_pieces.new.disk) (g.D.Disk.len c.args.disk.now) c.args.cache.now c.args.superblock.now (g.met.D.Disk.told_length c.args.disk.now) c.requires.place c.in_ok-send_pieces.ensures.device.made refl) (left_all (g.D.Disk.bytes c.args.disk.now) (option_map (λ i. written i 65536 c.args.superblock.now) (g.D.Disk.bytes c.send_pieces.new.disk)) (option_map (λ i. written i 65536 c.args.superblock.now) (g.D.Disk.bytes c.send_pieces.new.disk)) c.args.cache.now c.args.superblock.now (told_commit (g.D.Disk.bytes c.args.disk.now) (g.D.Disk.bytes c.send_pieces.new.disk) (option_map (λ i. written i 65536 c.args.superblock.now) (g.D.Disk.bytes c.send_pieces.new.disk)) (g.D.Disk.len c.args.disk.now) c.args.cache.now c.args.superblock.now (g.met.D.Disk.told_length c.args.disk.now) c.requires.place c.in_ok-send_pieces.ensures.device.made refl) refl) c.in_ok-settle_disk.ensures.settled more (leaves_sent (IsPlaceOf c.args.cache.now c.args.superblock.now) (IsAllOrPart c.args.cache.now) c.args.cache.now (g.D.Disk.bytes c.args.disk.now) (g.D.Disk.moments c.args.disk.now) (g.D.Disk.moments c.send_pieces.new.disk) (λ image left part. inr part) c.send_pieces.ensures.stops))
]

pub returns-clause-stops : goal.returns-clause-stops
returns-clause-stops g c =
    leaves_either c.settle_disk-2.result (IsPlaceOf c.args.cache.now c.args.superblock.now) (IsAllOrPart c.args.cache.now) (g.D.Disk.bytes c.args.disk.now) (g.D.Disk.bytes c.write.new.self) (g.D.Disk.moments c.args.disk.now) (g.D.Disk.moments c.write.new.self) (g.D.Disk.moments c.settle_disk-2.new.disk)
    (subst (λ o. IfSome (g.D.Disk.bytes c.args.disk.now) (λ image. IsPlaceOf c.args.cache.now c.args.superblock.now image → IsSomeAnd o (IsAllOrPart c.args.cache.now image))) (sym (c.in_ok-write.ensures.written ∙ ap (option_map (λ i. written i 65536 c.args.superblock.now)) c.settle_disk.ensures.bytes)) (left_all (g.D.Disk.bytes c.args.disk.now) (option_map (λ i. written i 65536 c.args.superblock.now) (g.D.Disk.bytes c.send_pieces.new.disk)) (option_map (λ i. written i 65536 c.args.superblock.now) (g.D.Disk.bytes c.send_pieces.new.disk)) c.args.cache.now c.args.superblock.now (told_commit (g.D.Disk.bytes c.args.disk.now) (g.D.Disk.bytes c.send_pieces.new.disk) (option_map (λ i. written i 65536 c.args.superblock.now) (g.D.Disk.bytes c.send_pieces.new.disk)) (g.D.Disk.len c.args.disk.now) c.args.cache.now c.args.superblock.now (g.met.D.Disk.told_length c.args.disk.now) c.requires.place c.in_ok-send_pieces.ensures.device.made refl) refl))
    c.settle_disk-2.ensures.settled c.settle_disk-2.ensures.unsettled
    (leaves_placed (IsPlaceOf c.args.cache.now c.args.superblock.now) (IsAllOrPart c.args.cache.now) (g.D.Disk.bytes c.args.disk.now) (g.D.Disk.bytes c.send_pieces.new.disk) (g.D.Disk.len c.args.disk.now) c.args.superblock.now (g.D.Disk.moments c.args.disk.now) (g.D.Disk.moments c.send_pieces.new.disk) (g.D.Disk.moments c.settle_disk.new.disk) (g.D.Disk.moments c.write.new.self) (subst (λ n. IfSome (g.D.Disk.bytes c.send_pieces.new.disk) (λ image. length image ≡ n)) c.send_pieces.ensures.device.len (g.met.D.Disk.told_length c.send_pieces.new.disk)) c.requires.place (omega arith) (left_but_place (g.D.Disk.bytes c.args.disk.now) (g.D.Disk.bytes c.send_pieces.new.disk) (g.D.Disk.bytes c.send_pieces.new.disk) (g.D.Disk.len c.args.disk.now) c.args.cache.now c.args.superblock.now (g.met.D.Disk.told_length c.args.disk.now) c.requires.place c.in_ok-send_pieces.ensures.device.made refl) (left_all (g.D.Disk.bytes c.args.disk.now) (option_map (λ i. written i 65536 c.args.superblock.now) (g.D.Disk.bytes c.send_pieces.new.disk)) (option_map (λ i. written i 65536 c.args.superblock.now) (g.D.Disk.bytes c.send_pieces.new.disk)) c.args.cache.now c.args.superblock.now (told_commit (g.D.Disk.bytes c.args.disk.now) (g.D.Disk.bytes c.send_pieces.new.disk) (option_map (λ i. written i 65536 c.args.superblock.now) (g.D.Disk.bytes c.send_pieces.new.disk)) (g.D.Disk.len c.args.disk.now) c.args.cache.now c.args.superblock.now (g.met.D.Disk.told_length c.args.disk.now) c.requires.place c.in_ok-send_pieces.ensures.device.made refl) refl) c.in_ok-settle_disk.ensures.settled c.in_ok-write.ensures.moments (leaves_sent (IsPlaceOf c.args.cache.now c.args.superblock.now) (IsAllOrPart c.args.cache.now) c.args.cache.now (g.D.Disk.bytes c.args.disk.now) (g.D.Disk.moments c.args.disk.now) (g.D.Disk.moments c.send_pieces.new.disk) (λ image left part. inr part) c.send_pieces.ensures.stops))

pub returns-clause-rest : goal.returns-clause-rest
returns-clause-rest g c =
    on_ok_weaker c.settle_disk-2.result (λ done. at_rest (g.D.Disk.bytes c.write.new.self) (g.D.Disk.bytes c.settle_disk-2.new.disk) (g.D.Disk.moments c.write.new.self) (g.D.Disk.moments c.settle_disk-2.new.disk) done c.settle_disk-2.ensures.bytes) c.settle_disk-2.ensures.settled

use Rattle.std.proofs.Common.{◌+◌, ◌≤◌, length, refl, sym, ◌∙◌, arith, subst}
use Rattle.verdict.proofs.Answers.{on_err as if_err}
use Rattle.recon_disk.specs.Outside.{counted}
use Rattle.write_cache.specs.Cache.{overlaid}
use Rattle.write_cache.specs.Lent.{piece_lent, pieces_left}
use Rattle.recon_core.specs.Stops.{IsPartlySent}
use Rattle.recon_core.specs.Sent.{IsOut, IsOutIn, with_place_of}
use Rattle.recon_core.proofs.Told.{IsSending, begin_sending, more_sent, piece_fails, piece_inside, piece_waits, sent_whole}
use Rattle.recon_disk.proofs.Sending.{sends_err}
use Rattle.recon_core.proofs.Ordered.{RunsLeft, runs_in_part, runs_begin, runs_more, runs_end}
use Rattle.recon_disk.proofs.Stopping.{written_none, written_then, written_wider}
use Rattle.recon_core.proofs.Moments.{out_wider}
use Rattle.recon_core.proofs.send.send_pieces.Goals as goal

pub loop-at-init : goal.loop-at-init
loop-at-init g c = record {
  size = refl;
  so = subst (λ p. IsSending c.args.cache.now (g.D.Disk.bytes c.args.disk.now) (g.D.Disk.bytes c.args.disk.now) (pieces_left p)) (sym c.into_iter-at-iterator.ensures.into_iter_gives)
      (begin_sending c.args.cache.now (g.D.Disk.bytes c.args.disk.now) (g.D.Disk.len c.args.disk.now) (pieces_left c.args.pieces) (g.met.D.Disk.told_length c.args.disk.now)
      c.requires.place c.requires.inside c.requires.pieces.apart c.requires.pieces.whole);
  order = subst (λ p. RunsLeft c.args.cache.now (g.D.Disk.sent c.args.disk.now) (g.D.Disk.sent c.args.disk.now) (pieces_left p)) (sym c.into_iter-at-iterator.ensures.into_iter_gives)
      (runs_begin c.args.cache.now (g.D.Disk.sent c.args.disk.now) (pieces_left c.args.pieces) c.requires.pieces);
  stops = written_none (IsOut c.args.cache.now) (g.D.Disk.moments c.args.disk.now);
  faults = refl;
  reads = refl;
}

pub send_piece-requires-clause-inside : goal.send_piece-requires-clause-inside
send_piece-requires-clause-inside g c =
    subst (λ n. c.in-Some.at + length c.in-Some.bytes.now ≤ n) (sym c.loop-at.invariant.size)
    (piece_inside c.args.cache.now (g.D.Disk.bytes c.args.disk.now) (g.D.Disk.bytes c.loop-at.disk) (g.D.Disk.len c.args.disk.now) (piece_lent (c.in-Some.at, c.in-Some.bytes)) (pieces_left c.next.new.self) c.requires.inside
    (subst (IsSending c.args.cache.now (g.D.Disk.bytes c.args.disk.now) (g.D.Disk.bytes c.loop-at.disk)) c.in-Some.ensures.steps c.loop-at.invariant.so))

pub send_piece-requires-clause-fits : goal.send_piece-requires-clause-fits
send_piece-requires-clause-fits g c =
    let inside = piece_inside c.args.cache.now (g.D.Disk.bytes c.args.disk.now) (g.D.Disk.bytes c.loop-at.disk) (g.D.Disk.len c.args.disk.now) (piece_lent (c.in-Some.at, c.in-Some.bytes)) (pieces_left c.next.new.self) c.requires.inside
    (subst (IsSending c.args.cache.now (g.D.Disk.bytes c.args.disk.now) (g.D.Disk.bytes c.loop-at.disk)) c.in-Some.ensures.steps c.loop-at.invariant.so) in
    omega (arith, inside, c.requires.small)

pub loop-at-preserved : goal.loop-at-preserved
loop-at-preserved g c = record {
  size = c.send_piece.ensures.device.len ∙ c.loop-at.invariant.size;
  so = more_sent c.args.cache.now (g.D.Disk.bytes c.args.disk.now) (g.D.Disk.bytes c.loop-at.disk) (g.D.Disk.bytes c.send_piece.new.disk) (g.D.Disk.len c.args.disk.now) (piece_lent (c.in-Some.at, c.in-Some.bytes)) (pieces_left c.next.new.self)
      (g.met.D.Disk.told_length c.args.disk.now) c.requires.inside
      (subst (IsSending c.args.cache.now (g.D.Disk.bytes c.args.disk.now) (g.D.Disk.bytes c.loop-at.disk)) c.in-Some.ensures.steps c.loop-at.invariant.so) c.in_ok-send_piece.ensures.device.made;
  order = runs_more c.args.cache.now (g.D.Disk.sent c.args.disk.now) (g.D.Disk.sent c.loop-at.disk) (g.D.Disk.sent c.send_piece.new.disk) (piece_lent (c.in-Some.at, c.in-Some.bytes)) (pieces_left c.next.new.self)
      (subst (RunsLeft c.args.cache.now (g.D.Disk.sent c.args.disk.now) (g.D.Disk.sent c.loop-at.disk)) c.in-Some.ensures.steps c.loop-at.invariant.order) c.in_ok-send_piece.ensures.order;
  stops = written_then (IsOut c.args.cache.now) (g.D.Disk.moments c.args.disk.now) (g.D.Disk.moments c.loop-at.disk) (g.D.Disk.moments c.send_piece.new.disk) c.loop-at.invariant.stops
      (written_wider (IsOutIn c.in-Some.at (length c.in-Some.bytes.now)) (IsOut c.args.cache.now) (g.D.Disk.moments c.loop-at.disk) (g.D.Disk.moments c.send_piece.new.disk)
      (out_wider c.args.cache.now c.in-Some.at (length c.in-Some.bytes.now)
      (piece_waits c.args.cache.now (g.D.Disk.bytes c.args.disk.now) (g.D.Disk.bytes c.loop-at.disk) (piece_lent (c.in-Some.at, c.in-Some.bytes)) (pieces_left c.next.new.self)
      (subst (IsSending c.args.cache.now (g.D.Disk.bytes c.args.disk.now) (g.D.Disk.bytes c.loop-at.disk)) c.in-Some.ensures.steps c.loop-at.invariant.so))) c.send_piece.ensures.stops);
  faults = c.in_ok-send_piece.ensures.device.cause.fine ∙ c.loop-at.invariant.faults;
  reads = c.send_piece.ensures.reads ∙ c.loop-at.invariant.reads;
}

pub returns-in_err-send_piece-clause-device : goal.returns-in_err-send_piece-clause-device
returns-in_err-send_piece-clause-device g c =
    sends_err g.D.Disk c.args.disk.now c.send_piece.new.disk c.from_residual.result (λ image. with_place_of image (overlaid c.args.cache.now 0 image)) (IsPartlySent c.args.cache.now) c.from_residual.ensures.0
    (piece_fails c.args.cache.now (g.D.Disk.bytes c.args.disk.now) (g.D.Disk.bytes c.loop-at.disk) (g.D.Disk.bytes c.send_piece.new.disk) (piece_lent (c.in-Some.at, c.in-Some.bytes)) (pieces_left c.next.new.self)
    (subst (IsSending c.args.cache.now (g.D.Disk.bytes c.args.disk.now) (g.D.Disk.bytes c.loop-at.disk)) c.in-Some.ensures.steps c.loop-at.invariant.so) c.in_err-send_piece.ensures.device.left)
    (c.send_piece.ensures.device.len ∙ c.loop-at.invariant.size)
    (subst (λ k. k ≤ g.D.Disk.faults c.send_piece.new.disk) c.loop-at.invariant.faults c.in_err-send_piece.ensures.device.cause.grows)
    (subst (λ k. counted k ≤ g.D.Disk.faults c.send_piece.new.disk) c.loop-at.invariant.faults c.in_err-send_piece.ensures.device.cause.failed)

pub returns-clause-device : goal.returns-clause-device
returns-clause-device g c = record {
  made = sent_whole c.args.cache.now (g.D.Disk.bytes c.args.disk.now) (g.D.Disk.bytes c.loop-at.disk) (pieces_left c.loop-at.at-iterator) c.in-None.ensures.steps.0 c.loop-at.invariant.so;
  left = tt;
  len = c.loop-at.invariant.size;
  cause = record { grows = omega arith; failed = tt; fine = c.loop-at.invariant.faults };
}

pub returns-clause-order : goal.returns-clause-order
returns-clause-order g c = runs_end c.args.cache.now (g.D.Disk.sent c.args.disk.now) (g.D.Disk.sent c.loop-at.disk) (pieces_left c.loop-at.at-iterator) c.in-None.ensures.steps.0 c.loop-at.invariant.order

pub returns-in_err-send_piece-clause-part : goal.returns-in_err-send_piece-clause-part
returns-in_err-send_piece-clause-part g c =
    if_err c.from_residual.result (runs_in_part c.args.cache.now (g.D.Disk.sent c.args.disk.now) (g.D.Disk.sent c.loop-at.disk) (g.D.Disk.sent c.send_piece.new.disk) (piece_lent (c.in-Some.at, c.in-Some.bytes)) (pieces_left c.next.new.self)
    (subst (RunsLeft c.args.cache.now (g.D.Disk.sent c.args.disk.now) (g.D.Disk.sent c.loop-at.disk)) c.in-Some.ensures.steps c.loop-at.invariant.order) c.in_err-send_piece.ensures.part)

pub returns-in_err-send_piece-clause-stops : goal.returns-in_err-send_piece-clause-stops
returns-in_err-send_piece-clause-stops g c =
    written_then (IsOut c.args.cache.now) (g.D.Disk.moments c.args.disk.now) (g.D.Disk.moments c.loop-at.disk) (g.D.Disk.moments c.send_piece.new.disk) c.loop-at.invariant.stops
    (written_wider (IsOutIn c.in-Some.at (length c.in-Some.bytes.now)) (IsOut c.args.cache.now) (g.D.Disk.moments c.loop-at.disk) (g.D.Disk.moments c.send_piece.new.disk)
    (out_wider c.args.cache.now c.in-Some.at (length c.in-Some.bytes.now)
    (piece_waits c.args.cache.now (g.D.Disk.bytes c.args.disk.now) (g.D.Disk.bytes c.loop-at.disk) (piece_lent (c.in-Some.at, c.in-Some.bytes)) (pieces_left c.next.new.self)
    (subst (IsSending c.args.cache.now (g.D.Disk.bytes c.args.disk.now) (g.D.Disk.bytes c.loop-at.disk)) c.in-Some.ensures.steps c.loop-at.invariant.so))) c.send_piece.ensures.stops)

pub returns-clause-stops : goal.returns-clause-stops
returns-clause-stops g c = c.loop-at.invariant.stops

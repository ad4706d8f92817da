use Rattle.std.proofs.Common.{◌≡◌, ◌+◌, ◌-◌, min, length, take, drop, ◌∙◌, arith, ap, subst}
use Rattle.std.proofs.lemmas.List.{length-drop, length-take-le, take_rest}
use Rattle.std.proofs.lemmas.Result.{on_err_weaker, on_ok_weaker}
use Rattle.verdict.proofs.Answers.{on_err as if_err}
use Rattle.recon_disk.specs.Outside.{HasCause}
use Rattle.recon_core.specs.Sent.{IsOutIn, StaysButForPiece, sent_piece}
use Rattle.recon_core.proofs.Told.{front_fails, piece_sent, rest_fails}
use Rattle.recon_disk.proofs.Sending.{sends_err}
use Rattle.recon_core.proofs.Ordered.{front_in_part, piece_out, rest_in_part}
use Rattle.recon_disk.specs.Stops.{LiesIn}
use Rattle.recon_disk.proofs.Stopping.{written_then, written_wider}
use Rattle.recon_core.proofs.Moments.{front_out, rest_out}
use Rattle.recon_core.proofs.send.send_piece.Goals as goal

pub returns-in_err-write_all_at-clause-device : goal.returns-in_err-write_all_at-clause-device
returns-in_err-write_all_at-clause-device g c =
    sends_err g.D.Disk c.args.disk.now c.write_all_at.new.disk c.from_residual.result (λ image. sent_piece image c.args.at c.args.bytes.now) (StaysButForPiece c.args.at (length c.args.bytes.now)) c.from_residual.ensures.0
    (front_fails (g.D.Disk.bytes c.args.disk.now) (g.D.Disk.bytes c.write_all_at.new.disk) c.args.at c.args.bytes.now (take c.min-before.result c.args.bytes.now)
    (ap (λ k. take k c.args.bytes.now) (omega arith)) c.in_err-write_all_at.ensures.device.left)
    c.write_all_at.ensures.device.len c.in_err-write_all_at.ensures.device.cause.grows c.in_err-write_all_at.ensures.device.cause.failed

pub returns-clause-device : goal.returns-clause-device
returns-clause-device g c =
    let bytes = c.args.bytes.now in
    let front : take c.min-before.result bytes ≡ take (min (65536 - c.args.at) (length bytes)) bytes = ap (λ k. take k bytes) (omega arith) in
    let rest : take (length bytes - c.min-behind.result) (drop c.min-behind.result bytes) ≡ drop (min (69632 - c.args.at) (length bytes)) bytes =
    take_rest bytes c.min-behind.result ∙ ap (λ k. drop k bytes) (omega arith) in
    record {
      made = on_ok_weaker c.write_all_at-2.result (λ l. piece_sent (g.D.Disk.bytes c.args.disk.now) (g.D.Disk.bytes c.write_all_at.new.disk) (g.D.Disk.bytes c.write_all_at-2.new.disk) c.args.at bytes (take c.min-before.result bytes)
          (take (length bytes - c.min-behind.result) (drop c.min-behind.result bytes)) (c.args.at + c.min-behind.result) front rest (omega arith) c.in_ok-write_all_at.ensures.device.made l) c.write_all_at-2.ensures.device.made;
      left = on_err_weaker c.write_all_at-2.result (λ h. rest_fails (g.D.Disk.bytes c.args.disk.now) (g.D.Disk.bytes c.write_all_at.new.disk) (g.D.Disk.bytes c.write_all_at-2.new.disk) (g.D.Disk.len c.args.disk.now) c.args.at bytes (take c.min-before.result bytes)
          (take (length bytes - c.min-behind.result) (drop c.min-behind.result bytes)) (c.args.at + c.min-behind.result) (g.met.D.Disk.told_length c.args.disk.now) c.requires.inside front rest (omega arith) c.in_ok-write_all_at.ensures.device.made h) c.write_all_at-2.ensures.device.left;
      len = c.write_all_at-2.ensures.device.len ∙ c.write_all_at.ensures.device.len;
      cause = subst (λ k. HasCause k (g.D.Disk.faults c.write_all_at-2.new.disk) c.write_all_at-2.result) c.in_ok-write_all_at.ensures.device.cause.fine c.write_all_at-2.ensures.device.cause;
    }

pub returns-clause-order : goal.returns-clause-order
returns-clause-order g c =
    let bytes = c.args.bytes.now in
    on_ok_weaker c.write_all_at-2.result (λ l. piece_out (g.D.Disk.sent c.args.disk.now) (g.D.Disk.sent c.write_all_at.new.disk) (g.D.Disk.sent c.write_all_at-2.new.disk) c.args.at (c.args.at + c.min-behind.result) bytes
    (take c.min-before.result bytes) (take (length bytes - c.min-behind.result) (drop c.min-behind.result bytes))
    (ap (λ k. take k bytes) (omega arith)) (take_rest bytes c.min-behind.result ∙ ap (λ k. drop k bytes) (omega arith)) (omega arith) c.in_ok-write_all_at.ensures.order l)
    c.write_all_at-2.ensures.order

pub returns-in_err-write_all_at-clause-part : goal.returns-in_err-write_all_at-clause-part
returns-in_err-write_all_at-clause-part g c =
    if_err c.from_residual.result (front_in_part (g.D.Disk.sent c.args.disk.now) (g.D.Disk.sent c.write_all_at.new.disk) c.args.at c.args.bytes.now (take c.min-before.result c.args.bytes.now)
    (ap (λ k. take k c.args.bytes.now) (omega arith)) c.in_err-write_all_at.ensures.part)

pub returns-clause-part : goal.returns-clause-part
returns-clause-part g c =
    let bytes = c.args.bytes.now in
    on_err_weaker c.write_all_at-2.result (λ h. rest_in_part (g.D.Disk.sent c.args.disk.now) (g.D.Disk.sent c.write_all_at.new.disk) (g.D.Disk.sent c.write_all_at-2.new.disk) c.args.at (c.args.at + c.min-behind.result) bytes
    (take c.min-before.result bytes) (take (length bytes - c.min-behind.result) (drop c.min-behind.result bytes))
    (ap (λ k. take k bytes) (omega arith)) (take_rest bytes c.min-behind.result ∙ ap (λ k. drop k bytes) (omega arith)) (omega arith) c.in_ok-write_all_at.ensures.order h)
    c.write_all_at-2.ensures.part

pub returns-in_err-write_all_at-clause-stops : goal.returns-in_err-write_all_at-clause-stops
returns-in_err-write_all_at-clause-stops g c =
    let size : length (take c.min-before.result c.args.bytes.now) ≡ c.min-before.result = length-take-le c.min-before.result c.args.bytes.now (omega arith) in
    (written_wider (LiesIn c.args.at (length (take c.min-before.result c.args.bytes.now))) (IsOutIn c.args.at (length c.args.bytes.now))
    (g.D.Disk.moments c.args.disk.now) (g.D.Disk.moments c.write_all_at.new.disk)
    (front_out c.args.at (length c.args.bytes.now) (length (take c.min-before.result c.args.bytes.now)) (omega (arith, size)) (omega (arith, size))) c.write_all_at.ensures.stops)

pub returns-clause-stops : goal.returns-clause-stops
returns-clause-stops g c =
    let bytes = c.args.bytes.now in
    let size : length (take c.min-before.result bytes) ≡ c.min-before.result = length-take-le c.min-before.result bytes (omega arith) in
    let rest : take (length bytes - c.min-behind.result) (drop c.min-behind.result bytes) ≡ drop (min (69632 - c.args.at) (length bytes)) bytes =
    take_rest bytes c.min-behind.result ∙ ap (λ k. drop k bytes) (omega arith) in
    let left : length (take (length bytes - c.min-behind.result) (drop c.min-behind.result bytes)) ≡ length bytes - min (69632 - c.args.at) (length bytes) =
    ap length rest ∙ length-drop (min (69632 - c.args.at) (length bytes)) bytes in
    written_then (IsOutIn c.args.at (length bytes)) (g.D.Disk.moments c.args.disk.now) (g.D.Disk.moments c.write_all_at.new.disk) (g.D.Disk.moments c.write_all_at-2.new.disk)
    (written_wider (LiesIn c.args.at (length (take c.min-before.result c.args.bytes.now))) (IsOutIn c.args.at (length c.args.bytes.now))
    (g.D.Disk.moments c.args.disk.now) (g.D.Disk.moments c.write_all_at.new.disk)
    (front_out c.args.at (length c.args.bytes.now) (length (take c.min-before.result c.args.bytes.now)) (omega (arith, size)) (omega (arith, size))) c.write_all_at.ensures.stops)
    (written_wider (LiesIn (c.args.at + c.min-behind.result) (length (take (length bytes - c.min-behind.result) (drop c.min-behind.result bytes)))) (IsOutIn c.args.at (length bytes))
    (g.D.Disk.moments c.write_all_at.new.disk) (g.D.Disk.moments c.write_all_at-2.new.disk)
    (rest_out c.args.at (length bytes) (c.args.at + c.min-behind.result) _ (omega arith) left) c.write_all_at-2.ensures.stops)

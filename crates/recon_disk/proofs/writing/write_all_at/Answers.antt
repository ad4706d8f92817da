use Rattle.std.proofs.Common.{◌≡◌, ◌+◌, ◌-◌, ◌≤◌, inl, inr, length, take, drop, refl, sym, ◌∙◌, arith, ap, subst}
use Rattle.std.proofs.lemmas.List.{length-take-le, length-drop}
use Rattle.verdict.proofs.Answers.{on_err as if_err}
use Rattle.verdict.specs.Image.{written}
use Rattle.recon_disk.specs.Outside.{counted}
use Rattle.recon_disk.specs.Calls.{run_calls}
use Rattle.recon_disk.specs.Sending.{StaysOutside}
use Rattle.recon_disk.proofs.Sending.{told_none, told_more, run_fails, sends_err}
use Rattle.recon_disk.proofs.Sending.{part_sent, run_begins, run_more, run_ends}
use Rattle.recon_disk.specs.Stops.{HasWritten, LiesIn}
use Rattle.recon_disk.proofs.Stopping.{lies_in, some_of, written_none, written_one, size_of, written_same, written_then}
use Rattle.recon_disk.proofs.writing.write_all_at.Goals as goal

pub loop-done-init : goal.loop-done-init
loop-done-init g c = record { few = omega arith; size = refl; front = told_none (g.D.Disk.bytes c.args.disk.now) c.args.at c.args.bytes.now; order = run_begins (g.D.Disk.sent c.args.disk.now) c.args.at c.args.bytes.now; stops = written_none (LiesIn c.args.at (length c.args.bytes.now)) (g.D.Disk.moments c.args.disk.now); faults = refl; reads = refl }

pub overflow_add-at : goal.overflow_add-at
overflow_add-at g c = omega (arith, c.loop-done.invariant.few, c.requires.fits)

pub loop-done-preserved : goal.loop-done-preserved
loop-done-preserved g c =
    record {
      few = omega arith;
      size = c.write.ensures.len ∙ c.loop-done.invariant.size;
      front = told_more (g.D.Disk.bytes c.args.disk.now) (g.D.Disk.bytes c.loop-done.disk) _ (g.D.Disk.len c.args.disk.now) c.args.at c.loop-done.done c.min-n.result c.args.bytes.now _ (g.met.D.Disk.told_length c.args.disk.now) c.requires.inside (omega arith) (ap (λ k. take k (drop c.loop-done.done c.args.bytes.now)) (omega arith)) c.loop-done.invariant.front c.in_ok-write.ensures.written;
      order = run_more (g.D.Disk.sent c.args.disk.now) (g.D.Disk.sent c.loop-done.disk) (g.D.Disk.sent c.write.new.self) c.args.at c.loop-done.done c.min-n.result c.args.bytes.now _ (omega arith) (omega arith)
          (ap (λ k. take k (drop c.loop-done.done c.args.bytes.now)) (omega arith)) c.loop-done.invariant.order c.in_ok-write.ensures.sent;
      stops = written_then (LiesIn c.args.at (length c.args.bytes.now)) (g.D.Disk.moments c.args.disk.now) (g.D.Disk.moments c.loop-done.disk) (g.D.Disk.moments c.write.new.self) c.loop-done.invariant.stops (subst (HasWritten (LiesIn c.args.at (length c.args.bytes.now)) (g.D.Disk.moments c.loop-done.disk)) (sym c.in_ok-write.ensures.moments) (written_one (LiesIn c.args.at (length c.args.bytes.now)) (g.D.Disk.moments c.loop-done.disk) (c.args.at + c.loop-done.done) (take (c.loop-done.done + c.min-n.result - c.loop-done.done) (drop c.loop-done.done c.args.bytes.now)) (lies_in c.args.at (length c.args.bytes.now) (c.args.at + c.loop-done.done) (take (c.loop-done.done + c.min-n.result - c.loop-done.done) (drop c.loop-done.done c.args.bytes.now)) (some_of c.loop-done.done c.min-n.result c.args.bytes.now (omega arith) (omega arith)) (omega arith) (size_of c.loop-done.done c.min-n.result c.args.bytes.now c.args.at (omega arith)))));
      faults = c.in_ok-write.ensures.cause.fine ∙ c.loop-done.invariant.faults;
      reads = c.write.ensures.reads ∙ c.loop-done.invariant.reads;
    }

pub returns-in_err-write-clause-device : goal.returns-in_err-write-clause-device
returns-in_err-write-clause-device g c =
    let n = c.min-n.result in
    let part = take (c.loop-done.done + n - c.loop-done.done) (drop c.loop-done.done c.args.bytes.now) in
    let left : length (drop c.loop-done.done c.args.bytes.now) ≡ length c.args.bytes.now - c.loop-done.done = length-drop c.loop-done.done c.args.bytes.now in
    let size : length part ≡ n = length-take-le (c.loop-done.done + n - c.loop-done.done) (drop c.loop-done.done c.args.bytes.now) (omega arith) ∙ (omega arith) in
    sends_err g.D.Disk c.args.disk.now c.write.new.self c.from_residual.result (λ image. written image c.args.at c.args.bytes.now) (StaysOutside c.args.at (length c.args.bytes.now)) c.from_residual.ensures.0
    (run_fails (g.D.Disk.bytes c.args.disk.now) (g.D.Disk.bytes c.loop-done.disk) (g.D.Disk.bytes c.write.new.self) (g.D.Disk.len c.args.disk.now) c.args.at c.loop-done.done n c.args.bytes.now part
    (g.met.D.Disk.told_length c.args.disk.now) c.requires.inside (omega arith) size c.loop-done.invariant.front c.in_err-write.ensures.partly)
    (c.write.ensures.len ∙ c.loop-done.invariant.size)
    (subst (λ k. k ≤ g.D.Disk.faults c.write.new.self) c.loop-done.invariant.faults c.in_err-write.ensures.cause.grows)
    (subst (λ k. counted k ≤ g.D.Disk.faults c.write.new.self) c.loop-done.invariant.faults c.in_err-write.ensures.cause.failed)

pub returns-clause-order : goal.returns-clause-order
returns-clause-order g c =
    run_ends (g.D.Disk.sent c.args.disk.now) (g.D.Disk.sent c.loop-done.disk) c.args.at c.loop-done.done c.args.bytes.now (omega arith) c.loop-done.invariant.order

pub returns-in_err-write-clause-part : goal.returns-in_err-write-clause-part
returns-in_err-write-clause-part g c =
    if_err c.from_residual.result (part_sent (g.D.Disk.sent c.args.disk.now) (g.D.Disk.sent c.loop-done.disk) (g.D.Disk.sent c.write.new.self) (run_calls c.args.at c.args.bytes.now)
    (run_calls (c.args.at + c.loop-done.done) (drop c.loop-done.done c.args.bytes.now)) c.loop-done.invariant.order c.in_err-write.ensures.unsent)

pub returns-clause-stops : goal.returns-clause-stops
returns-clause-stops g c = c.loop-done.invariant.stops

pub returns-in_err-write-clause-stops : goal.returns-in_err-write-clause-stops
returns-in_err-write-clause-stops g c =
    written_then (LiesIn c.args.at (length c.args.bytes.now)) (g.D.Disk.moments c.args.disk.now) (g.D.Disk.moments c.loop-done.disk) (g.D.Disk.moments c.write.new.self) c.loop-done.invariant.stops
    (elim c.in_err-write.ensures.perhaps [
      | inl same ↦ written_same (LiesIn c.args.at (length c.args.bytes.now)) (g.D.Disk.moments c.loop-done.disk) (g.D.Disk.moments c.write.new.self) same
      | inr more ↦ subst (HasWritten (LiesIn c.args.at (length c.args.bytes.now)) (g.D.Disk.moments c.loop-done.disk)) (sym more) (written_one (LiesIn c.args.at (length c.args.bytes.now)) (g.D.Disk.moments c.loop-done.disk) (c.args.at + c.loop-done.done) (take (c.loop-done.done + c.min-n.result - c.loop-done.done) (drop c.loop-done.done c.args.bytes.now)) (lies_in c.args.at (length c.args.bytes.now) (c.args.at + c.loop-done.done) (take (c.loop-done.done + c.min-n.result - c.loop-done.done) (drop c.loop-done.done c.args.bytes.now)) (some_of c.loop-done.done c.min-n.result c.args.bytes.now (omega arith) (omega arith)) (omega arith) (size_of c.loop-done.done c.min-n.result c.args.bytes.now c.args.at (omega arith))))
    ])

use Rattle.std.proofs.Common.{[], ◌∷◌, ◌∙◌, ap, subst}
use Rattle.std.proofs.lemmas.Result.{on_ok_weaker}
use Rattle.verdict.proofs.Answers.{on_err}
use Rattle.recon_disk.specs.Calls.{Flushed, and_sent, run_calls}
use Rattle.recon_disk.specs.Outside.{HasCause}
use Rattle.recon_disk.proofs.Sending.{if_ok, sent_then}
use Rattle.recon_cli.proofs.Made.{whole_left}
use Rattle.recon_cli.proofs.making.put_image.Goals as goal

pub returns-clause-device : goal.returns-clause-device
returns-clause-device g c =
    let all = c.in_ok-write_all_at.ensures.device.made in
    record {
      made = if_ok c.flush.result (c.flush.ensures.bytes ∙ all);
      left = on_err c.flush.result (whole_left (g.D.Disk.bytes c.args.disk.now) (g.D.Disk.bytes c.write_all_at.new.disk) (g.D.Disk.bytes c.flush.new.self) (g.D.Disk.len c.args.disk.now) c.args.image.now
          (g.met.D.Disk.told_length c.args.disk.now) c.requires.inside all c.flush.ensures.bytes);
      len = c.flush.ensures.len ∙ c.write_all_at.ensures.device.len;
      cause = subst (λ k. HasCause k (g.D.Disk.faults c.flush.new.self) c.flush.result) c.in_ok-write_all_at.ensures.device.cause.fine c.flush.ensures.cause;
    }

pub returns-clause-flushed : goal.returns-clause-flushed
returns-clause-flushed g c =
    on_ok_weaker c.flush.result (λ s. (
      run_calls 0 c.args.image.now,
      s ∙ ap (λ o. and_sent o (Flushed ∷ [])) c.in_ok-write_all_at.ensures.order ∙ sent_then (g.D.Disk.sent c.args.disk.now) (run_calls 0 c.args.image.now) (Flushed ∷ []),
    )) c.flush.ensures.sent

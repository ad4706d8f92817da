use Rattle.std.proofs.Common.{◌≡◌, List, ℕ, ap, ◌∙◌, subst}
use Rattle.recon_disk.specs.Outside.{MayBeAppended}
use Rattle.trace_reader.specs.Trace.{spelling_of, spelling_of_all}
use Rattle.trace_maker.proofs.Sinking.{and_then}
use Rattle.trace_maker.proofs.Making.{any_err, record_more, record_failed, records_stopped}
use Rattle.trace_maker.proofs.make.put_all.Goals as goal

pub returns-in_default-clause-partly : goal.returns-in_default-clause-partly
returns-in_default-clause-partly g c =
    records_stopped (g.K.Sink.kept c.args.out.now) (g.K.Sink.kept c.loop-event.out) c.args.events.now c.loop-event.event-index c.loop-event.invariant.gained

pub returns-in_err-put-clause-partly : goal.returns-in_err-put-clause-partly
returns-in_err-put-clause-partly g c =
    let kept = g.K.Sink.kept in
    let bytes : c.as_slice.result.now ≡ spelling_of c.event-item.result = c.as_slice.ensures ∙ c.in-Ok.ensures in
    let P : List ℕ → Type 0 = λ b. MayBeAppended (kept c.loop-event.out) b (kept c.put.new.out) in
    any_err (MayBeAppended (kept c.args.out.now) (spelling_of_all c.args.events.now) (kept c.put.new.out)) c.from_residual.result
    (record_failed (kept c.args.out.now) (kept c.loop-event.out) (kept c.put.new.out) c.args.events.now c.loop-event.event-index c.event-item.result c.loop-event-test.true c.event-item.is
    c.loop-event.invariant.gained (subst P bytes c.in_err-put.ensures.partly))

pub loop-event-preserved : goal.loop-event-preserved
loop-event-preserved g c =
    let kept = g.K.Sink.kept in
    let bytes : c.as_slice.result.now ≡ spelling_of c.event-item.result = c.as_slice.ensures ∙ c.in-Ok.ensures in
    record {
      gained = record_more (kept c.args.out.now) (kept c.loop-event.out) (kept c.put.new.out) c.args.events.now c.loop-event.event-index c.event-item.result c.loop-event-test.true c.event-item.is
          c.loop-event.invariant.gained (c.in_ok-put.ensures.appended ∙ ap (λ (b : List ℕ). and_then (kept c.loop-event.out) b) bytes);
      faults = c.in_ok-put.ensures.cause ∙ c.loop-event.invariant.faults;
    }

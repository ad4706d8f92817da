use Rattle.std.proofs.Common.{◌≡◌, ◌+◌, ◌++◌, Some, None, IfSome, refl, sym, arith, ap, ◌∙◌, subst}
use Rattle.recon_core.specs.Moments.{IsFlushedAs}
use Rattle.recon_core.specs.Standing.{IsBelow}
use Rattle.recon_cli.specs.Run.{TookLines, record_limit}
use Rattle.recon_cli.specs.Outcome.{no_counts}
use Rattle.recon_cli.specs.Turns.{MayStep, Turns}
use Rattle.recon_cli.specs.Stopped.{StopsFrom, lines_of, state_after}
use Rattle.recon_cli.specs.Stopping.{TurnStops}
use Rattle.recon_cli.proofs.Stopping.{handed}
use Rattle.recon_cli.proofs.Reaching.{Far, each_err, far_end, far_event, far_fault, far_start, far_turn}
use Rattle.recon_cli.proofs.Going.{Going, going_start, going_event, going_end, going_fault, going_past, place_is, place_fits, at_event, at_end, after_is, limit_over, both_ok, each_ok, fault_cause, three_is, event_reads}
use Rattle.recon_cli.proofs.Handing.{more_lines, no_lines}
use Rattle.recon_cli.proofs.HowOften.{ReadSoFar, read_end, read_event, read_start}
use Rattle.recon_cli.proofs.Moments.{LeftSoFar, adds_next, adds_taken, each_moments, left_event, left_start}
use Rattle.recon_cli.proofs.replay.take_records.Goals as goal

pub returns-in_err-turn-in-Ok-Event-clause-lines : goal.returns-in_err-turn-in-Ok-Event-clause-lines
returns-in_err-turn-in-Ok-Event-clause-lines g c =
    more_lines c.records.invariant.lines (subst (λ w. TookLines g.K.Sink w c.records.lent.out.now c.take_event.new.out) c.records.invariant.style c.in_err-turn-in-Ok-Event.ensures.lines)

pub returns-in-Some-clause-lines : goal.returns-in-Some-clause-lines
returns-in-Some-clause-lines g c =
    more_lines c.records.invariant.lines (subst (λ w. TookLines g.K.Sink w c.records.lent.out.now c.take_event.new.out) c.records.invariant.style c.in_ok-turn-in-Ok-Event.ensures.lines)

pub returns-in-Ok-End-clause-lines : goal.returns-in-Ok-End-clause-lines
returns-in-Ok-End-clause-lines g c = more_lines c.records.invariant.lines c.print_summary.ensures.lines

pub returns-in-Err-clause-lines : goal.returns-in-Err-clause-lines
returns-in-Err-clause-lines g c = more_lines c.records.invariant.lines c.print_fault.ensures.lines

pub records-init : goal.records-init
records-init g c =
    let whole : c.new-reader.result.whole ≡ 0 = ap (λ r. r.whole) c.new-reader.ensures in
    record {
      live = ap (λ r. r.live) c.new-reader.ensures;
      limit = ap (λ r. r.limit) c.new-reader.ensures;
      few = omega arith;
      count = omega (arith, ap (λ t. t.passed) c.requires.first, ap (λ t. t.rejected) c.requires.first);
      style = refl;
      same = record { disk = refl; trace = refl; out = refl; steps = refl };
      open_ = c.requires.open;
      size = c.requires.length;
      below = c.requires.below;
      disk_faults = refl;
      source_faults = refl;
      sink_faults = refl;
      lines = no_lines refl;
      going = λ first bytes kept stands image lawful left printed.
          subst (λ t. Going c.args.replay.now.style first bytes kept c.new-reader.result t c.args.replay.now.checker (g.D.Disk.bytes c.args.lent.now.disk.now) (g.S.Source.left c.args.lent.now.trace.now) (g.K.Sink.kept c.args.lent.now.out.now)) (sym c.requires.first)
          (subst (λ r. Going c.args.replay.now.style first bytes kept r no_counts c.args.replay.now.checker (g.D.Disk.bytes c.args.lent.now.disk.now) (g.S.Source.left c.args.lent.now.trace.now) (g.K.Sink.kept c.args.lent.now.out.now)) (sym c.new-reader.ensures)
          (going_start c.args.replay.now.style first bytes kept c.args.replay.now.checker (g.D.Disk.bytes c.args.lent.now.disk.now) (g.S.Source.left c.args.lent.now.trace.now) (g.K.Sink.kept c.args.lent.now.out.now) stands image lawful left printed));
      far = λ first bytes kept stands image left printed.
          subst (λ t. Far c.args.replay.now.style first bytes kept c.new-reader.result t c.args.replay.now.checker (g.D.Disk.bytes c.args.lent.now.disk.now) (g.S.Source.left c.args.lent.now.trace.now) (g.K.Sink.kept c.args.lent.now.out.now)) (sym c.requires.first)
          (subst (λ r. Far c.args.replay.now.style first bytes kept r no_counts c.args.replay.now.checker (g.D.Disk.bytes c.args.lent.now.disk.now) (g.S.Source.left c.args.lent.now.trace.now) (g.K.Sink.kept c.args.lent.now.out.now)) (sym c.new-reader.ensures)
          (far_start c.args.replay.now.style first bytes kept c.args.replay.now.checker (g.D.Disk.bytes c.args.lent.now.disk.now) (g.S.Source.left c.args.lent.now.trace.now) (g.K.Sink.kept c.args.lent.now.out.now) stands image left printed));
      read = λ first bytes stands image left.
          let reads = g.D.Disk.reads c.args.lent.now.disk.now in
          let looks = c.args.lent.now.steps.now in
          subst (λ t. ReadSoFar first bytes c.new-reader.result t c.args.replay.now.checker (g.D.Disk.bytes c.args.lent.now.disk.now) (g.S.Source.left c.args.lent.now.trace.now) reads reads looks looks) (sym c.requires.first)
          (subst (λ r. ReadSoFar first bytes r no_counts c.args.replay.now.checker (g.D.Disk.bytes c.args.lent.now.disk.now) (g.S.Source.left c.args.lent.now.trace.now) reads reads looks looks) (sym c.new-reader.ensures)
          (read_start first bytes c.args.replay.now.checker (g.D.Disk.bytes c.args.lent.now.disk.now) (g.S.Source.left c.args.lent.now.trace.now) reads looks stands image left));
      left = λ first bytes stands image left.
          let disk = g.D.Disk.bytes c.args.lent.now.disk.now in
          let rest = g.S.Source.left c.args.lent.now.trace.now in
          let moments = g.D.Disk.moments c.args.lent.now.disk.now in
          subst (λ t. IfSome moments (λ before. IsFlushedAs first.image before → LeftSoFar first bytes c.new-reader.result t c.args.replay.now.checker disk rest before moments)) (sym c.requires.first)
          (subst (λ r. IfSome moments (λ before. IsFlushedAs first.image before → LeftSoFar first bytes r no_counts c.args.replay.now.checker disk rest before moments)) (sym c.new-reader.ensures)
          (left_start first bytes c.args.replay.now.checker disk rest moments stands image left));
    }

pub returns-in-Some-clause-outcome : goal.returns-in-Some-clause-outcome
returns-in-Some-clause-outcome g c first bytes kept stands image lawful left printed =
    let going = c.records.invariant.going first bytes kept stands image lawful left printed in
    let next = after_is c.records.reader c.next.new.self c.in-Ok-Event.field-0 c.in-Ok-Event.event c.in-Ok-Event.field-0-is c.in-Ok-Event.ensures.state in
    let at = place_is c.records.reader c.next.new.self c.in-Ok-Event.event c.record_number-place.result next c.record_number-place.ensures.number c.records.invariant.few c.records.invariant.limit in
    going_past c.args.replay.now.style first bytes kept c.records.reader c.next.new.self c.records.replay.counts c.records.replay.checker (g.D.Disk.bytes c.records.lent.disk.now) (g.D.Disk.bytes c.take_event.new.disk)
    (g.S.Source.left c.records.lent.trace.now) (g.S.Source.left c.next.new.source) (g.K.Sink.kept c.records.lent.out.now) (g.K.Sink.kept c.take_event.new.out) c.in-Some.status c.record_number-place.result c.in-Ok-Event.event
    going (at_event c.records.reader c.next.new.self (g.S.Source.left c.records.lent.trace.now) (g.S.Source.left c.next.new.source) c.in-Ok-Event.field-0 c.in-Ok-Event.event c.in-Ok-Event.field-0-is c.in-Ok-Event.ensures.told) at
    (subst (λ w. Turns w going.state c.record_number-place.result c.records.replay.counts c.in-Ok-Event.event (kept ++ going.text) (Some c.in-Some.status) c.take_event.new.self.checker c.take_event.new.self.counts (g.D.Disk.bytes c.take_event.new.disk) (g.K.Sink.kept c.take_event.new.out))
    c.records.invariant.style
    (subst (λ t. Turns c.records.replay.style going.state c.record_number-place.result c.records.replay.counts c.in-Ok-Event.event (kept ++ going.text) t c.take_event.new.self.checker c.take_event.new.self.counts (g.D.Disk.bytes c.take_event.new.disk) (g.K.Sink.kept c.take_event.new.out))
    c.in-Some.is (c.in_ok-turn-in-Ok-Event.ensures.turns going.state (kept ++ going.text) going.stands going.image going.printed)))

pub returns-in-Some-clause-status : goal.returns-in-Some-clause-status
returns-in-Some-clause-status g c =
    three_is c.in-Some.status (subst (λ t. IfSome t (λ n. n ≡ 3)) c.in-Some.is c.in_ok-turn-in-Ok-Event.ensures.status)

pub returns-in-Ok-End-clause-outcome : goal.returns-in-Ok-End-clause-outcome
returns-in-Ok-End-clause-outcome g c first bytes kept stands image lawful left printed =
    let going = c.records.invariant.going first bytes kept stands image lawful left printed in
    both_ok c.print_summary.result (λ status st out. going_end c.args.replay.now.style first bytes kept c.records.reader c.next.new.self c.records.replay.counts c.records.replay.checker (g.D.Disk.bytes c.records.lent.disk.now)
    (g.S.Source.left c.records.lent.trace.now) (g.S.Source.left c.next.new.source) (g.K.Sink.kept c.records.lent.out.now) (g.K.Sink.kept c.print_summary.new.out) status going
    (at_end c.records.reader c.next.new.self (g.S.Source.left c.records.lent.trace.now) (g.S.Source.left c.next.new.source) c.in-Ok-End.field-0 c.in-Ok-End.field-0-is c.in-Ok-End.ensures.told)
    st out) c.print_summary.ensures.status c.print_summary.ensures.printed

pub returns-in-Err-clause-outcome : goal.returns-in-Err-clause-outcome
returns-in-Err-clause-outcome g c first bytes kept stands image lawful left printed =
    let going = c.records.invariant.going first bytes kept stands image lawful left printed in
    let limit : c.next.new.self.limit ≡ record_limit = limit_over c.records.reader c.next.new.self c.in-Err.fault c.in-Err.ensures.state ∙ c.records.invariant.limit in
    each_ok c.print_fault.result (λ status p. going_fault c.args.replay.now.style first bytes kept c.records.reader c.next.new.self c.records.replay.counts c.records.replay.checker (g.D.Disk.bytes c.records.lent.disk.now)
    (g.S.Source.left c.records.lent.trace.now) (g.S.Source.left c.next.new.source) (g.K.Sink.kept c.records.lent.out.now) (g.K.Sink.kept c.print_fault.new.out) status c.record_number-place-in-Err.result c.in-Err.fault going
    c.in-Err.ensures.told p.1 (place_fits c.next.new.self.number c.next.new.self.limit c.record_number-place-in-Err.result c.record_number-place-in-Err.ensures.number c.record_number-place-in-Err.ensures.within limit) p.0 p.2)
    c.print_fault.ensures.printed

pub returns-in-Some-clause-reads : goal.returns-in-Some-clause-reads
returns-in-Some-clause-reads g c first bytes stands image lawful left none =
    let three : c.in-Some.status ≡ 3 = subst (λ t. IfSome t (λ n. n ≡ 3)) c.in-Some.is c.in_ok-turn-in-Ok-Event.ensures.status in
    absurd (omega (arith, three, none))

pub returns-in-Ok-End-clause-reads : goal.returns-in-Ok-End-clause-reads
returns-in-Ok-End-clause-reads g c first bytes stands image lawful left =
    each_ok c.print_summary.result (λ status is none events ending spelled. (read_end first bytes c.records.reader c.next.new.self c.records.replay.counts c.records.replay.checker (g.D.Disk.bytes c.records.lent.disk.now)
    (g.S.Source.left c.records.lent.trace.now) (g.S.Source.left c.next.new.source) (g.D.Disk.reads c.args.lent.now.disk.now) (g.D.Disk.reads c.records.lent.disk.now)
    c.args.lent.now.steps.now c.records.lent.steps.now status
    (c.records.invariant.read first bytes stands image left) lawful
    (at_end c.records.reader c.next.new.self (g.S.Source.left c.records.lent.trace.now) (g.S.Source.left c.next.new.source) c.in-Ok-End.field-0 c.in-Ok-End.field-0-is c.in-Ok-End.ensures.told)
    is none events ending spelled).0) c.print_summary.ensures.status

pub returns-in-Ok-End-clause-looks : goal.returns-in-Ok-End-clause-looks
returns-in-Ok-End-clause-looks g c first bytes stands image lawful left =
    each_ok c.print_summary.result (λ status is none events ending spelled. (read_end first bytes c.records.reader c.next.new.self c.records.replay.counts c.records.replay.checker (g.D.Disk.bytes c.records.lent.disk.now)
    (g.S.Source.left c.records.lent.trace.now) (g.S.Source.left c.next.new.source) (g.D.Disk.reads c.args.lent.now.disk.now) (g.D.Disk.reads c.records.lent.disk.now)
    c.args.lent.now.steps.now c.records.lent.steps.now status
    (c.records.invariant.read first bytes stands image left) lawful
    (at_end c.records.reader c.next.new.self (g.S.Source.left c.records.lent.trace.now) (g.S.Source.left c.next.new.source) c.in-Ok-End.field-0 c.in-Ok-End.field-0-is c.in-Ok-End.ensures.told)
    is none events ending spelled).1) c.print_summary.ensures.status

pub returns-in-Some-clause-looks : goal.returns-in-Some-clause-looks
returns-in-Some-clause-looks g c first bytes stands image lawful left none =
    let three : c.in-Some.status ≡ 3 = subst (λ t. IfSome t (λ n. n ≡ 3)) c.in-Some.is c.in_ok-turn-in-Ok-Event.ensures.status in
    absurd (omega (arith, three, none))

pub returns-in-Err-clause-looks : goal.returns-in-Err-clause-looks
returns-in-Err-clause-looks g c first bytes stands image lawful left =
    each_ok c.print_fault.result (λ status p none. absurd (omega (arith, p.0, none))) c.print_fault.ensures.printed

pub returns-in-Err-clause-reads : goal.returns-in-Err-clause-reads
returns-in-Err-clause-reads g c first bytes stands image lawful left =
    each_ok c.print_fault.result (λ status p none. absurd (omega (arith, p.0, none))) c.print_fault.ensures.printed

pub returns-in-Err-clause-cause : goal.returns-in-Err-clause-cause
returns-in-Err-clause-cause g c =
    fault_cause c.in-Err.fault c.print_fault.result (g.D.Disk.faults c.args.lent.now.disk.now) (g.D.Disk.faults c.records.lent.disk.now) (g.S.Source.faults c.args.lent.now.trace.now) (g.S.Source.faults c.records.lent.trace.now) (g.S.Source.faults c.next.new.source)
    (g.K.Sink.faults c.args.lent.now.out.now) (g.K.Sink.faults c.records.lent.out.now) (g.K.Sink.faults c.print_fault.new.out) c.records.invariant.disk_faults c.records.invariant.source_faults c.records.invariant.sink_faults
    c.in-Err.ensures.cause c.print_fault.ensures.cause

pub records-preserved : goal.records-preserved
records-preserved g c =
    let next = after_is c.records.reader c.next.new.self c.in-Ok-Event.field-0 c.in-Ok-Event.event c.in-Ok-Event.field-0-is c.in-Ok-Event.ensures.state in
    let whole : c.next.new.self.whole ≡ c.records.reader.whole + 1 = ap (λ r. r.whole) next in
    let turn = c.in_ok-turn-in-Ok-Event.ensures in
    record {
      live = ap (λ r. r.live) next;
      limit = ap (λ r. r.limit) next ∙ c.records.invariant.limit;
      few = c.in-Ok-Event.ensures.within;
      count = omega (arith, turn.count, c.records.invariant.count);
      same = record {
        disk = c.records.invariant.same.disk;
        trace = c.records.invariant.same.trace;
        out = c.records.invariant.same.out;
        steps = c.records.invariant.same.steps;
      };
      open_ = turn.open;
      size = turn.size ∙ c.records.invariant.size ∙ sym turn.len;
      below = subst (λ n. IsBelow n c.take_event.new.self.checker.cache) (sym turn.size) turn.below;
      disk_faults = turn.cause.0 ∙ c.records.invariant.disk_faults;
      source_faults = event_reads (g.S.Source.faults c.records.lent.trace.now) (g.S.Source.faults c.next.new.source) c.in-Ok-Event.field-0 c.in-Ok-Event.ensures.cause ∙ c.records.invariant.source_faults;
      sink_faults = turn.cause.1 ∙ c.records.invariant.sink_faults;
      style = turn.style ∙ c.records.invariant.style;
      lines = more_lines c.records.invariant.lines (subst (λ w. TookLines g.K.Sink w c.records.lent.out.now c.take_event.new.out) c.records.invariant.style turn.lines);
      going = λ first bytes kept stands image lawful left printed.
          let going = c.records.invariant.going first bytes kept stands image lawful left printed in
          going_event c.args.replay.now.style first bytes kept c.records.reader c.next.new.self c.records.replay.counts c.take_event.new.self.counts c.records.replay.checker c.take_event.new.self.checker (g.D.Disk.bytes c.records.lent.disk.now) (g.D.Disk.bytes c.take_event.new.disk)
          (g.S.Source.left c.records.lent.trace.now) (g.S.Source.left c.next.new.source) (g.K.Sink.kept c.records.lent.out.now) (g.K.Sink.kept c.take_event.new.out) c.in-Ok-Event.event
          going (at_event c.records.reader c.next.new.self (g.S.Source.left c.records.lent.trace.now) (g.S.Source.left c.next.new.source) c.in-Ok-Event.field-0 c.in-Ok-Event.event c.in-Ok-Event.field-0-is c.in-Ok-Event.ensures.told) next
          (subst (λ w. Turns w going.state c.record_number-place.result c.records.replay.counts c.in-Ok-Event.event (kept ++ going.text) None c.take_event.new.self.checker c.take_event.new.self.counts (g.D.Disk.bytes c.take_event.new.disk) (g.K.Sink.kept c.take_event.new.out))
          c.records.invariant.style
          (subst (λ t. Turns c.records.replay.style going.state c.record_number-place.result c.records.replay.counts c.in-Ok-Event.event (kept ++ going.text) t c.take_event.new.self.checker c.take_event.new.self.counts (g.D.Disk.bytes c.take_event.new.disk) (g.K.Sink.kept c.take_event.new.out))
          c.in_default.is (turn.turns going.state (kept ++ going.text) going.stands going.image going.printed)));
      far = λ first bytes kept stands image left printed.
          let far = c.records.invariant.far first bytes kept stands image left printed in
          let s = state_after first far.took.done in
          let text = kept ++ lines_of c.args.replay.now.style first no_counts far.took.done in
          far_event c.args.replay.now.style first bytes kept c.records.reader c.next.new.self c.records.replay.counts c.take_event.new.self.counts c.records.replay.checker c.take_event.new.self.checker (g.D.Disk.bytes c.records.lent.disk.now) (g.D.Disk.bytes c.take_event.new.disk)
          (g.S.Source.left c.records.lent.trace.now) (g.S.Source.left c.next.new.source) (g.K.Sink.kept c.records.lent.out.now) (g.K.Sink.kept c.take_event.new.out) c.in-Ok-Event.event
          far (at_event c.records.reader c.next.new.self (g.S.Source.left c.records.lent.trace.now) (g.S.Source.left c.next.new.source) c.in-Ok-Event.field-0 c.in-Ok-Event.event c.in-Ok-Event.field-0-is c.in-Ok-Event.ensures.told) next
          (subst (λ w. Turns w s c.record_number-place.result c.records.replay.counts c.in-Ok-Event.event text None c.take_event.new.self.checker c.take_event.new.self.counts (g.D.Disk.bytes c.take_event.new.disk) (g.K.Sink.kept c.take_event.new.out))
          c.records.invariant.style
          (subst (λ t. Turns c.records.replay.style s c.record_number-place.result c.records.replay.counts c.in-Ok-Event.event text t c.take_event.new.self.checker c.take_event.new.self.counts (g.D.Disk.bytes c.take_event.new.disk) (g.K.Sink.kept c.take_event.new.out))
          c.in_default.is (turn.turns s text far.took.stands far.took.image far.printed)));
      read = λ first bytes stands image left.
          let so = c.records.invariant.read first bytes stands image left in
          let s = state_after first so.took.done in
          read_event first bytes c.records.reader c.next.new.self c.records.replay.counts c.take_event.new.self.counts c.records.replay.checker c.take_event.new.self.checker (g.D.Disk.bytes c.records.lent.disk.now) (g.D.Disk.bytes c.take_event.new.disk)
          (g.S.Source.left c.records.lent.trace.now) (g.S.Source.left c.next.new.source) (g.D.Disk.reads c.args.lent.now.disk.now) (g.D.Disk.reads c.records.lent.disk.now) (g.D.Disk.reads c.take_event.new.disk)
          c.args.lent.now.steps.now c.records.lent.steps.now c.take_event.new.steps c.in-Ok-Event.event
          so (at_event c.records.reader c.next.new.self (g.S.Source.left c.records.lent.trace.now) (g.S.Source.left c.next.new.source) c.in-Ok-Event.field-0 c.in-Ok-Event.event c.in-Ok-Event.field-0-is c.in-Ok-Event.ensures.told) next
          (subst (λ t. MayStep s c.records.replay.counts c.in-Ok-Event.event t c.take_event.new.self.checker c.take_event.new.self.counts (g.D.Disk.bytes c.take_event.new.disk) (g.D.Disk.reads c.records.lent.disk.now) (g.D.Disk.reads c.take_event.new.disk)
          c.records.lent.steps.now c.take_event.new.steps)
          c.in_default.is (turn.reads s so.took.stands so.took.image));
      left = λ first bytes stands image left.
          each_moments (g.D.Disk.moments c.args.lent.now.disk.now) (λ before left_by flushed.
          let so = left_by flushed in
          let s = state_after first so.took.done in
          let stepped = subst (λ t. MayStep s c.records.replay.counts c.in-Ok-Event.event t c.take_event.new.self.checker c.take_event.new.self.counts (g.D.Disk.bytes c.take_event.new.disk) (g.D.Disk.reads c.records.lent.disk.now) (g.D.Disk.reads c.take_event.new.disk)
          c.records.lent.steps.now c.take_event.new.steps)
          c.in_default.is (turn.reads s so.took.stands so.took.image) in
          left_event first bytes c.records.reader c.next.new.self c.records.replay.counts c.take_event.new.self.counts c.records.replay.checker c.take_event.new.self.checker (g.D.Disk.bytes c.records.lent.disk.now) (g.D.Disk.bytes c.take_event.new.disk)
          (g.S.Source.left c.records.lent.trace.now) (g.S.Source.left c.next.new.source) before (g.D.Disk.moments c.records.lent.disk.now) (g.D.Disk.moments c.take_event.new.disk) c.in-Ok-Event.event
          so (at_event c.records.reader c.next.new.self (g.S.Source.left c.records.lent.trace.now) (g.S.Source.left c.next.new.source) c.in-Ok-Event.field-0 c.in-Ok-Event.event c.in-Ok-Event.field-0-is c.in-Ok-Event.ensures.told) next
          stepped.0 (turn.moments s so.took.stands so.took.image) turn.rest)
          (c.records.invariant.left first bytes stands image left);
    }

pub returns-in_err-turn-in-Ok-Event-clause-stopped : goal.returns-in_err-turn-in-Ok-Event-clause-stopped
returns-in_err-turn-in-Ok-Event-clause-stopped g c first bytes kept stands image left printed =
    let far = c.records.invariant.far first bytes kept stands image left printed in
    let s = state_after first far.took.done in
    let text = kept ++ lines_of c.args.replay.now.style first no_counts far.took.done in
    let next = after_is c.records.reader c.next.new.self c.in-Ok-Event.field-0 c.in-Ok-Event.event c.in-Ok-Event.field-0-is c.in-Ok-Event.ensures.state in
    let at = place_is c.records.reader c.next.new.self c.in-Ok-Event.event c.record_number-place.result next c.record_number-place.ensures.number c.records.invariant.few c.records.invariant.limit in
    handed (λ cause. StopsFrom c.args.replay.now.style first bytes kept cause (g.D.Disk.bytes c.take_event.new.disk) (g.S.Source.left c.next.new.source) (g.K.Sink.kept c.take_event.new.out)) c.from_residual.result c.in_err-turn-in-Ok-Event.field-0.0 c.from_residual.ensures.1
    (far_turn c.args.replay.now.style first bytes kept c.records.reader c.next.new.self c.records.replay.counts c.records.replay.checker (g.D.Disk.bytes c.records.lent.disk.now) (g.D.Disk.bytes c.take_event.new.disk)
    (g.S.Source.left c.records.lent.trace.now) (g.S.Source.left c.next.new.source) (g.K.Sink.kept c.records.lent.out.now) (g.K.Sink.kept c.take_event.new.out) c.record_number-place.result c.in-Ok-Event.event c.in_err-turn-in-Ok-Event.field-0.0
    far (at_event c.records.reader c.next.new.self (g.S.Source.left c.records.lent.trace.now) (g.S.Source.left c.next.new.source) c.in-Ok-Event.field-0 c.in-Ok-Event.event c.in-Ok-Event.field-0-is c.in-Ok-Event.ensures.told) at
    (subst (λ w. TurnStops w s c.record_number-place.result c.records.replay.counts c.in-Ok-Event.event text c.in_err-turn-in-Ok-Event.field-0.0 (g.D.Disk.bytes c.take_event.new.disk) (g.K.Sink.kept c.take_event.new.out))
    c.records.invariant.style (c.in_err-turn-in-Ok-Event.ensures.stopped s text far.took.stands far.took.image far.printed)))

pub returns-in-Ok-End-clause-stopped : goal.returns-in-Ok-End-clause-stopped
returns-in-Ok-End-clause-stopped g c first bytes kept stands image left printed =
    let far = c.records.invariant.far first bytes kept stands image left printed in
    each_err c.print_summary.result (λ cause cut. far_end c.args.replay.now.style first bytes kept c.records.reader c.next.new.self c.records.replay.counts c.records.replay.checker (g.D.Disk.bytes c.records.lent.disk.now)
    (g.S.Source.left c.records.lent.trace.now) (g.S.Source.left c.next.new.source) (g.K.Sink.kept c.records.lent.out.now) (g.K.Sink.kept c.print_summary.new.out) cause far
    (at_end c.records.reader c.next.new.self (g.S.Source.left c.records.lent.trace.now) (g.S.Source.left c.next.new.source) c.in-Ok-End.field-0 c.in-Ok-End.field-0-is c.in-Ok-End.ensures.told)
    cut) c.print_summary.ensures.stopped

pub returns-in-Err-clause-stopped : goal.returns-in-Err-clause-stopped
returns-in-Err-clause-stopped g c first bytes kept stands image left printed =
    let far = c.records.invariant.far first bytes kept stands image left printed in
    let limit : c.next.new.self.limit ≡ record_limit = limit_over c.records.reader c.next.new.self c.in-Err.fault c.in-Err.ensures.state ∙ c.records.invariant.limit in
    each_err c.print_fault.result (λ cause cut. far_fault c.args.replay.now.style first bytes kept c.records.reader c.next.new.self c.records.replay.counts c.records.replay.checker (g.D.Disk.bytes c.records.lent.disk.now)
    (g.S.Source.left c.records.lent.trace.now) (g.S.Source.left c.next.new.source) (g.K.Sink.kept c.records.lent.out.now) (g.K.Sink.kept c.print_fault.new.out) c.record_number-place-in-Err.result c.in-Err.fault cause far
    c.in-Err.ensures.told (place_fits c.next.new.self.number c.next.new.self.limit c.record_number-place-in-Err.result c.record_number-place-in-Err.ensures.number c.record_number-place-in-Err.ensures.within limit) cut)
    c.print_fault.ensures.stopped

pub returns-in_err-turn-in-Ok-Event-clause-moments : goal.returns-in_err-turn-in-Ok-Event-clause-moments
returns-in_err-turn-in-Ok-Event-clause-moments g c first bytes stands image lawful left =
    adds_next first bytes c.records.reader c.next.new.self c.records.replay.counts c.records.replay.checker (g.D.Disk.bytes c.records.lent.disk.now) (g.S.Source.left c.records.lent.trace.now) (g.S.Source.left c.next.new.source)
    (g.D.Disk.moments c.args.lent.now.disk.now) (g.D.Disk.moments c.records.lent.disk.now) (g.D.Disk.moments c.take_event.new.disk) c.in-Ok-Event.event (c.records.invariant.left first bytes stands image left)
    (at_event c.records.reader c.next.new.self (g.S.Source.left c.records.lent.trace.now) (g.S.Source.left c.next.new.source) c.in-Ok-Event.field-0 c.in-Ok-Event.event c.in-Ok-Event.field-0-is c.in-Ok-Event.ensures.told)
    c.in_err-turn-in-Ok-Event.ensures.moments lawful

pub returns-in-Some-clause-moments : goal.returns-in-Some-clause-moments
returns-in-Some-clause-moments g c first bytes stands image lawful left =
    adds_next first bytes c.records.reader c.next.new.self c.records.replay.counts c.records.replay.checker (g.D.Disk.bytes c.records.lent.disk.now) (g.S.Source.left c.records.lent.trace.now) (g.S.Source.left c.next.new.source)
    (g.D.Disk.moments c.args.lent.now.disk.now) (g.D.Disk.moments c.records.lent.disk.now) (g.D.Disk.moments c.take_event.new.disk) c.in-Ok-Event.event (c.records.invariant.left first bytes stands image left)
    (at_event c.records.reader c.next.new.self (g.S.Source.left c.records.lent.trace.now) (g.S.Source.left c.next.new.source) c.in-Ok-Event.field-0 c.in-Ok-Event.event c.in-Ok-Event.field-0-is c.in-Ok-Event.ensures.told)
    c.in_ok-turn-in-Ok-Event.ensures.moments lawful

pub returns-in-Ok-End-clause-moments : goal.returns-in-Ok-End-clause-moments
returns-in-Ok-End-clause-moments g c first bytes stands image lawful left =
    adds_taken first bytes c.records.reader c.records.replay.counts c.records.replay.checker (g.D.Disk.bytes c.records.lent.disk.now) (g.S.Source.left c.records.lent.trace.now)
    (g.D.Disk.moments c.args.lent.now.disk.now) (g.D.Disk.moments c.records.lent.disk.now) (c.records.invariant.left first bytes stands image left) lawful

pub returns-in-Err-clause-moments : goal.returns-in-Err-clause-moments
returns-in-Err-clause-moments g c first bytes stands image lawful left =
    adds_taken first bytes c.records.reader c.records.replay.counts c.records.replay.checker (g.D.Disk.bytes c.records.lent.disk.now) (g.S.Source.left c.records.lent.trace.now)
    (g.D.Disk.moments c.args.lent.now.disk.now) (g.D.Disk.moments c.records.lent.disk.now) (c.records.invariant.left first bytes stands image left) lawful

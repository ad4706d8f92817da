use Rattle.std.proofs.Common.{ap, refl}
use Rattle.recon_core.specs.Standing.{refusal_of}
use Rattle.recon_cli.proofs.Moments.{each_refusal, turn_adds}
use Rattle.recon_cli.proofs.turn.Replay.take_event.Goals as goal

pub returns-in_err-report-in-Ok-clause-moments : goal.returns-in_err-report-in-Ok-clause-moments
returns-in_err-report-in-Ok-clause-moments g c state stands told =
    turn_adds c.args.self.now.checker state c.args.event (refusal_of c.args.self.now.checker c.args.event) (g.D.Disk.moments c.args.disk.now) (g.D.Disk.moments c.event.new.disk) refl
    (each_refusal (refusal_of c.args.self.now.checker c.args.event) (λ stop h. ap g.D.Disk.moments h.2) c.event.ensures.refused)
    (λ none. c.event.ensures.stops state stands told none) (λ none hot. c.event.ensures.safe state stands none hot)

pub returns-in_ok-report-in-Ok-clause-moments : goal.returns-in_ok-report-in-Ok-clause-moments
returns-in_ok-report-in-Ok-clause-moments g c state stands told =
    turn_adds c.args.self.now.checker state c.args.event (refusal_of c.args.self.now.checker c.args.event) (g.D.Disk.moments c.args.disk.now) (g.D.Disk.moments c.event.new.disk) refl
    (each_refusal (refusal_of c.args.self.now.checker c.args.event) (λ stop h. ap g.D.Disk.moments h.2) c.event.ensures.refused)
    (λ none. c.event.ensures.stops state stands told none) (λ none hot. c.event.ensures.safe state stands none hot)

pub returns-in_err-print-in-Err-PastEnd-clause-moments : goal.returns-in_err-print-in-Err-PastEnd-clause-moments
returns-in_err-print-in-Err-PastEnd-clause-moments g c state stands told =
    turn_adds c.args.self.now.checker state c.args.event (refusal_of c.args.self.now.checker c.args.event) (g.D.Disk.moments c.args.disk.now) (g.D.Disk.moments c.event.new.disk) refl
    (each_refusal (refusal_of c.args.self.now.checker c.args.event) (λ stop h. ap g.D.Disk.moments h.2) c.event.ensures.refused)
    (λ none. c.event.ensures.stops state stands told none) (λ none hot. c.event.ensures.safe state stands none hot)

pub returns-in_ok-print-in-Err-PastEnd-clause-moments : goal.returns-in_ok-print-in-Err-PastEnd-clause-moments
returns-in_ok-print-in-Err-PastEnd-clause-moments g c state stands told =
    turn_adds c.args.self.now.checker state c.args.event (refusal_of c.args.self.now.checker c.args.event) (g.D.Disk.moments c.args.disk.now) (g.D.Disk.moments c.event.new.disk) refl
    (each_refusal (refusal_of c.args.self.now.checker c.args.event) (λ stop h. ap g.D.Disk.moments h.2) c.event.ensures.refused)
    (λ none. c.event.ensures.stops state stands told none) (λ none hot. c.event.ensures.safe state stands none hot)

pub returns-in-Err-DiskFault-clause-moments : goal.returns-in-Err-DiskFault-clause-moments
returns-in-Err-DiskFault-clause-moments g c state stands told =
    turn_adds c.args.self.now.checker state c.args.event (refusal_of c.args.self.now.checker c.args.event) (g.D.Disk.moments c.args.disk.now) (g.D.Disk.moments c.event.new.disk) refl
    (each_refusal (refusal_of c.args.self.now.checker c.args.event) (λ stop h. ap g.D.Disk.moments h.2) c.event.ensures.refused)
    (λ none. c.event.ensures.stops state stands told none) (λ none hot. c.event.ensures.safe state stands none hot)

pub returns-in-Err-NoMemory-clause-moments : goal.returns-in-Err-NoMemory-clause-moments
returns-in-Err-NoMemory-clause-moments g c state stands told =
    turn_adds c.args.self.now.checker state c.args.event (refusal_of c.args.self.now.checker c.args.event) (g.D.Disk.moments c.args.disk.now) (g.D.Disk.moments c.event.new.disk) refl
    (each_refusal (refusal_of c.args.self.now.checker c.args.event) (λ stop h. ap g.D.Disk.moments h.2) c.event.ensures.refused)
    (λ none. c.event.ensures.stops state stands told none) (λ none hot. c.event.ensures.safe state stands none hot)

use Rattle.std.proofs.Common.{map, string_bytes, sym, subst, arith, rules}
use Rattle.recon_cli.specs.declared.words.Form.TheVariants.{Check, Make, Replay}
use Rattle.recon_cli.specs.Run.{HasStatusCause, faults_of}
use Rattle.recon_cli.proofs.Made.{stops_with_cause}
use Rattle.recon_cli.proofs.OneForm.{one_style}
use Rattle.recon_cli.proofs.run.recon_run.Goals as goal

pub returns-in-Ok-replay-clause-replay : goal.returns-in-Ok-replay-clause-replay
returns-in-Ok-replay-clause-replay g c style form done image bytes kept told left lawful printed events ending spelled =
    let as_asked = one_style (map string_bytes c.args.words.now) c.in-Some-Replay.field-0 c.in-Some-Replay.style style c.in-Some-Replay.field-0-is c.in-Some-Replay.ensures form in
    let run = c.in-Ok-replay.ensures.outcome image bytes kept told lawful left printed events ending spelled in
    let said = rw as_asked at run in
    let same = c.in-Ok-replay.ensures.same in
    search rules

pub returns-in-Ok-replay-clause-reads : goal.returns-in-Ok-replay-clause-reads
returns-in-Ok-replay-clause-reads g c style form none image bytes told left lawful events ending spelled trees walks =
    let run = c.in-Ok-replay.ensures.reads image bytes told lawful left none events ending spelled trees walks in
    let same = c.in-Ok-replay.ensures.same in
    search rules

pub returns-in-Ok-replay-clause-looks : goal.returns-in-Ok-replay-clause-looks
returns-in-Ok-replay-clause-looks g c style form none image bytes told left lawful events ending spelled =
    let run = c.in-Ok-replay.ensures.looks image bytes told lawful left none events ending spelled in
    let same = c.in-Ok-replay.ensures.same in
    search rules

pub returns-in-None-clause-checked : goal.returns-in-None-clause-checked
returns-in-None-clause-checked g c form = absurd (c.in-None.ensures Check form)

pub returns-in-None-clause-make : goal.returns-in-None-clause-make
returns-in-None-clause-make g c seed commits form = absurd (c.in-None.ensures (Make seed commits) form)

pub returns-in-None-clause-short : goal.returns-in-None-clause-short
returns-in-None-clause-short g c = (λ e. absurd (omega arith), λ h. absurd (c.in-None.ensures (Make h.0.0 h.0.1) h.0.2))

pub returns-in-None-clause-complete_make : goal.returns-in-None-clause-complete_make
returns-in-None-clause-complete_make g c asked faults = absurd (c.in-None.ensures (Make asked.0 asked.1) asked.2)

pub returns-in-Err-make-clause-causes : goal.returns-in-Err-make-clause-causes
returns-in-Err-make-clause-causes g c =
    subst (λ status. HasStatusCause (faults_of g.D.Disk g.S.Source g.K.Sink c.args.disk.now c.args.trace.now c.args.out.now) (faults_of g.D.Disk g.S.Source g.K.Sink c.make.new.disk c.args.trace.now c.make.new.out) status) (sym c.status_of-in-Err-make.ensures)
    (stops_with_cause (g.D.Disk.faults c.args.disk.now) (g.D.Disk.faults c.make.new.disk) (g.S.Source.faults c.args.trace.now) (g.K.Sink.faults c.args.out.now) (g.K.Sink.faults c.make.new.out) c.in-Err-make.cause c.in-Err-make.ensures.cause)

pub returns-in-Ok-replay-clause-stops : goal.returns-in-Ok-replay-clause-stops
returns-in-Ok-replay-clause-stops g c style form image bytes told left lawful =
    let run = c.in-Ok-replay.ensures.moments image bytes told lawful left in
    let same = c.in-Ok-replay.ensures.same in
    search rules

pub returns-in-Err-replay-clause-stops : goal.returns-in-Err-replay-clause-stops
returns-in-Err-replay-clause-stops g c style form image bytes told left lawful =
    let run = c.in-Err-replay.ensures.moments image bytes told lawful left in
    let same = c.in-Err-replay.ensures.same in
    search rules

pub returns-in-None-clause-stops : goal.returns-in-None-clause-stops
returns-in-None-clause-stops g c style form = absurd (c.in-None.ensures (Replay style) form)

use Rattle.std.proofs.Common.{◌++◌, refl, sym, subst}
use Rattle.recon_cli.specs.Outcome.{line_in}
use Rattle.report.specs.declared.line.Line.TheVariants.{Image}
use Rattle.recon_core.specs.Machine.{first_state}
use Rattle.recon_core.specs.Standing.{IsBelow}
use Rattle.recon_core.proofs.Steps.{below_none}
use Rattle.recon_cli.proofs.Going.{each_ok}
use Rattle.recon_cli.proofs.Handing.{more_lines}
use Rattle.recon_cli.proofs.Moments.{adds_none}
use Rattle.recon_cli.proofs.Start.{replays_accepted, printed_at}
use Rattle.verdict.specs.declared.finding.Verdict.TheVariants.{Accept}
use Rattle.recon_cli.specs.Stopped.{StopsAs}
use Rattle.recon_cli.proofs.Reaching.{each_err}
use Rattle.recon_cli.proofs.Stopping.{first_stops, handed, later_stops}
use Rattle.recon_cli.proofs.replay.replay_over.Goals as goal

pub take_records-requires-clause-below : goal.take_records-requires-clause-below
take_records-requires-clause-below g c = subst (IsBelow c.args.checker.length) (sym c.requires.empty) (below_none c.args.checker.length)

pub returns-clause-outcome : goal.returns-clause-outcome
returns-clause-outcome g c image bytes kept accepted stands told lawful left printed =
    each_ok c.take_records.result (λ status run. replays_accepted c.args.style image bytes kept c.args.generation status _ _ _ accepted lawful run)
    (c.take_records.ensures.outcome (first_state image) bytes (kept ++ line_in c.args.style (Image c.args.generation)) stands told lawful left
    (printed_at (g.K.Sink.kept c.print.new.out) (g.K.Sink.kept c.args.lent.now.out.now) kept (line_in c.args.style (Image c.args.generation)) printed c.in_ok-print.ensures.printed))

pub returns-clause-lines : goal.returns-clause-lines
returns-clause-lines g c = more_lines c.in_ok-print.ensures.lines c.take_records.ensures.lines

pub returns-in_err-print-clause-stopped : goal.returns-in_err-print-clause-stopped
returns-in_err-print-clause-stopped g c image bytes kept accepted stands told left printed =
    handed (λ cause. StopsAs c.args.style image bytes kept cause (g.D.Disk.bytes c.args.lent.now.disk.now) (g.S.Source.left c.args.lent.now.trace.now) (g.K.Sink.kept c.print.new.out)) c.from_residual.result c.in_err-print.field-0.0 c.from_residual.ensures.1
    (first_stops c.args.style image bytes kept (Accept c.args.generation) c.in_err-print.field-0.0 (g.D.Disk.bytes c.args.lent.now.disk.now) (g.S.Source.left c.args.lent.now.trace.now) (g.K.Sink.kept c.args.lent.now.out.now) (g.K.Sink.kept c.print.new.out)
    accepted told left printed c.in_err-print.ensures.stopped)

pub returns-clause-stopped : goal.returns-clause-stopped
returns-clause-stopped g c image bytes kept accepted stands told left printed =
    each_err c.take_records.result (λ cause stops. later_stops c.args.style image bytes kept c.args.generation cause _ _ _ accepted stops)
    (c.take_records.ensures.stopped (first_state image) bytes (kept ++ line_in c.args.style (Image c.args.generation)) stands told left
    (printed_at (g.K.Sink.kept c.print.new.out) (g.K.Sink.kept c.args.lent.now.out.now) kept (line_in c.args.style (Image c.args.generation)) printed c.in_ok-print.ensures.printed))

pub returns-clause-reads : goal.returns-clause-reads
returns-clause-reads g c image bytes stands told lawful left = c.take_records.ensures.reads (first_state image) bytes stands told lawful left

pub returns-clause-looks : goal.returns-clause-looks
returns-clause-looks g c image bytes stands told lawful left = c.take_records.ensures.looks (first_state image) bytes stands told lawful left

pub returns-clause-moments : goal.returns-clause-moments
returns-clause-moments g c image bytes stands told lawful left = c.take_records.ensures.moments (first_state image) bytes stands told lawful left

pub returns-in_err-print-clause-moments : goal.returns-in_err-print-clause-moments
returns-in_err-print-clause-moments g c image bytes stands told lawful left =
    adds_none (first_state image) bytes (g.D.Disk.moments c.args.lent.now.disk.now) (g.D.Disk.moments c.args.lent.now.disk.now) refl

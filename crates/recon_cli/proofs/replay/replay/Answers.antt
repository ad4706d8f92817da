use Rattle.std.proofs.Common.{◌∙◌, subst}
use Rattle.recon_core.specs.Machine.{first_state}
use Rattle.recon_cli.specs.Moments.{StopsInEvents}
use Rattle.recon_cli.proofs.Going.{each_ok}
use Rattle.recon_cli.proofs.HowOften.{begun_looks, begun_reads, looks_whole, reads_whole}
use Rattle.recon_cli.proofs.Moments.{adds_none}
use Rattle.recon_cli.proofs.Start.{begun_over}
use Rattle.recon_cli.proofs.replay.replay.Goals as goal

pub returns-in-Ok-Ok-clause-outcome : goal.returns-in-Ok-Ok-clause-outcome
returns-in-Ok-Ok-clause-outcome g c image bytes kept told lawful left printed =
    let start = begun_over (g.D.Disk.bytes c.args.lent.now.disk.now) image c.in-Ok-Ok.field-0 c.in-Ok-Ok.checker c.in-Ok-Ok.generation told c.in-Ok-Ok.field-0-is c.in-Ok-Ok.ensures.told in
    c.replay_over.ensures.outcome image bytes kept start.1 start.0 (c.in-Ok-Ok.ensures.kept.bytes ∙ told) lawful left printed

pub returns-in-Ok-Ok-clause-stopped : goal.returns-in-Ok-Ok-clause-stopped
returns-in-Ok-Ok-clause-stopped g c image bytes kept told left printed =
    let start = begun_over (g.D.Disk.bytes c.args.lent.now.disk.now) image c.in-Ok-Ok.field-0 c.in-Ok-Ok.checker c.in-Ok-Ok.generation told c.in-Ok-Ok.field-0-is c.in-Ok-Ok.ensures.told in
    c.replay_over.ensures.stopped image bytes kept start.1 start.0 (c.in-Ok-Ok.ensures.kept.bytes ∙ told) left printed

pub returns-in-Ok-Ok-clause-reads : goal.returns-in-Ok-Ok-clause-reads
returns-in-Ok-Ok-clause-reads g c image bytes told lawful left =
    let start = begun_over (g.D.Disk.bytes c.args.lent.now.disk.now) image c.in-Ok-Ok.field-0 c.in-Ok-Ok.checker c.in-Ok-Ok.generation told c.in-Ok-Ok.field-0-is c.in-Ok-Ok.ensures.told in
    let trees = begun_reads (g.D.Disk.bytes c.args.lent.now.disk.now) image (g.D.Disk.reads c.args.lent.now.disk.now) (g.D.Disk.reads c.begin.new.disk) c.in-Ok-Ok.field-0 c.in-Ok-Ok.checker c.in-Ok-Ok.generation
    told c.in-Ok-Ok.field-0-is c.in-Ok-Ok.ensures.reads in
    each_ok c.replay_over.result (λ status rest none. reads_whole image bytes _ _ _ trees (rest none))
    (c.replay_over.ensures.reads image bytes start.0 (c.in-Ok-Ok.ensures.kept.bytes ∙ told) lawful left)

pub returns-in-Ok-Ok-clause-looks : goal.returns-in-Ok-Ok-clause-looks
returns-in-Ok-Ok-clause-looks g c image bytes told lawful left =
    let start = begun_over (g.D.Disk.bytes c.args.lent.now.disk.now) image c.in-Ok-Ok.field-0 c.in-Ok-Ok.checker c.in-Ok-Ok.generation told c.in-Ok-Ok.field-0-is c.in-Ok-Ok.ensures.told in
    let few = begun_looks (g.D.Disk.bytes c.args.lent.now.disk.now) image c.args.lent.now.steps.now c.begin.new.steps c.in-Ok-Ok.field-0 c.in-Ok-Ok.checker c.in-Ok-Ok.generation
    told c.in-Ok-Ok.field-0-is c.in-Ok-Ok.ensures.looks in
    each_ok c.replay_over.result (λ status rest none. looks_whole image bytes _ _ _ few (rest none))
    (c.replay_over.ensures.looks image bytes start.0 (c.in-Ok-Ok.ensures.kept.bytes ∙ told) lawful left)

pub returns-in-Ok-Ok-clause-moments : goal.returns-in-Ok-Ok-clause-moments
returns-in-Ok-Ok-clause-moments g c image bytes told lawful left =
    let start = begun_over (g.D.Disk.bytes c.args.lent.now.disk.now) image c.in-Ok-Ok.field-0 c.in-Ok-Ok.checker c.in-Ok-Ok.generation told c.in-Ok-Ok.field-0-is c.in-Ok-Ok.ensures.told in
    subst (λ before. StopsInEvents (first_state image) bytes before (g.D.Disk.moments c.replay_over.new.lent.disk.now)) c.in-Ok-Ok.ensures.kept.moments
    (c.replay_over.ensures.moments image bytes start.0 (c.in-Ok-Ok.ensures.kept.bytes ∙ told) lawful left)

pub returns-in-Ok-Err-clause-moments : goal.returns-in-Ok-Err-clause-moments
returns-in-Ok-Err-clause-moments g c image bytes told lawful left =
    adds_none (first_state image) bytes (g.D.Disk.moments c.args.lent.now.disk.now) (g.D.Disk.moments c.begin.new.disk) c.in-Ok-Err.ensures.kept.moments

pub returns-in-Err-DiskFault-clause-moments : goal.returns-in-Err-DiskFault-clause-moments
returns-in-Err-DiskFault-clause-moments g c image bytes told lawful left =
    adds_none (first_state image) bytes (g.D.Disk.moments c.args.lent.now.disk.now) (g.D.Disk.moments c.begin.new.disk) c.in-Err-DiskFault.ensures.kept.moments

pub returns-in-Err-NoMemory-clause-moments : goal.returns-in-Err-NoMemory-clause-moments
returns-in-Err-NoMemory-clause-moments g c image bytes told lawful left =
    adds_none (first_state image) bytes (g.D.Disk.moments c.args.lent.now.disk.now) (g.D.Disk.moments c.begin.new.disk) c.in-Err-NoMemory.ensures.kept.moments

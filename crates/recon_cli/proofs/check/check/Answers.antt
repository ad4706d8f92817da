use Rattle.verdict.specs.declared.finding.Verdict.TheVariants.{Accept, Found}
use Rattle.recon_cli.proofs.Checking.{checks_as}
use Rattle.recon_cli.proofs.Going.{both_ok}
use Rattle.recon_cli.proofs.Reaching.{each_err}
use Rattle.recon_cli.proofs.Stopping.{check_stops}
use Rattle.recon_cli.proofs.check.check.Goals as goal

pub returns-in-Ok-Accept-clause-outcome : goal.returns-in-Ok-Accept-clause-outcome
returns-in-Ok-Accept-clause-outcome g c image kept told was =
    both_ok c.accept.result (λ status st out. checks_as image kept _ (g.D.Disk.bytes c.args.disk.now) (g.D.Disk.bytes c.judge-2.new.disk) (g.K.Sink.kept c.accept.new.out) (g.K.Sink.kept c.args.out.now)
    status c.in-Ok-Accept.field-0 (Accept c.in-Ok-Accept.generation) c.new.ensures told c.judge-2.ensures.kept.bytes was c.in-Ok-Accept.ensures.verdict c.in-Ok-Accept.field-0-is st out)
    c.accept.ensures.status c.accept.ensures.printed

pub returns-in-Ok-Found-clause-outcome : goal.returns-in-Ok-Found-clause-outcome
returns-in-Ok-Found-clause-outcome g c image kept told was =
    both_ok c.refuse.result (λ status st out. checks_as image kept _ (g.D.Disk.bytes c.args.disk.now) (g.D.Disk.bytes c.judge-2.new.disk) (g.K.Sink.kept c.refuse.new.out) (g.K.Sink.kept c.args.out.now)
    status c.in-Ok-Found.field-0 (Found c.in-Ok-Found.finding) c.new.ensures told c.judge-2.ensures.kept.bytes was c.in-Ok-Found.ensures.verdict c.in-Ok-Found.field-0-is st out)
    c.refuse.ensures.status c.refuse.ensures.printed

pub returns-in-Ok-Accept-clause-stopped : goal.returns-in-Ok-Accept-clause-stopped
returns-in-Ok-Accept-clause-stopped g c image kept told was =
    each_err c.accept.result (λ cause cut. check_stops image kept _ (g.D.Disk.bytes c.args.disk.now) (g.D.Disk.bytes c.judge-2.new.disk) (g.K.Sink.kept c.args.out.now) (g.K.Sink.kept c.accept.new.out)
    cause c.in-Ok-Accept.field-0 (Accept c.in-Ok-Accept.generation) c.new.ensures told c.judge-2.ensures.kept.bytes was c.in-Ok-Accept.ensures.verdict c.in-Ok-Accept.field-0-is cut) c.accept.ensures.stopped

pub returns-in-Ok-Found-clause-stopped : goal.returns-in-Ok-Found-clause-stopped
returns-in-Ok-Found-clause-stopped g c image kept told was =
    each_err c.refuse.result (λ cause cut. check_stops image kept _ (g.D.Disk.bytes c.args.disk.now) (g.D.Disk.bytes c.judge-2.new.disk) (g.K.Sink.kept c.args.out.now) (g.K.Sink.kept c.refuse.new.out)
    cause c.in-Ok-Found.field-0 (Found c.in-Ok-Found.finding) c.new.ensures told c.judge-2.ensures.kept.bytes was c.in-Ok-Found.ensures.verdict c.in-Ok-Found.field-0-is cut) c.refuse.ensures.stopped

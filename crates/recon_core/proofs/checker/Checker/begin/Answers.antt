use Rattle.std.proofs.Common.{ap, refl}
use Rattle.recon_core.proofs.Steps.{begins_looks, begins_reads, begins_ready, begins_refused, built_from}
use Rattle.recon_core.proofs.checker.Checker.begin.Goals as goal

pub returns-in-Ok-Refused-clause-told : goal.returns-in-Ok-Refused-clause-told
returns-in-Ok-Refused-clause-told g c =
    begins_refused (g.D.Disk.bytes c.args.disk.now) (g.D.Disk.reads c.args.disk.now) (g.D.Disk.reads c.build_within.new.disk)
    c.in-Ok-Refused.field-0 c.in-Ok-Refused.finding c.in-Ok-Refused.field-0-is
    (built_from (g.D.Disk.bytes c.args.disk.now) (g.D.Disk.bytes c.length.new.self) (g.D.Disk.reads c.args.disk.now)
    (g.D.Disk.reads c.length.new.self) (g.D.Disk.reads c.build_within.new.disk) c.in-Ok-Refused.field-0
    c.length.ensures.bytes c.length.ensures.reads c.in-Ok-Refused.ensures.told)

pub returns-in-Ok-Ready-clause-told : goal.returns-in-Ok-Ready-clause-told
returns-in-Ok-Ready-clause-told g c =
    begins_ready (g.D.Disk.bytes c.args.disk.now) (g.D.Disk.len c.args.disk.now) (g.D.Disk.reads c.args.disk.now)
    (g.D.Disk.reads c.build_within.new.disk) _ c.in-Ok-Ready.field-0 _
    c.in-Ok-Ready.field-0-is (g.met.D.Disk.told_length c.args.disk.now) c.new.ensures refl c.in-Ok.ensures.value
    (ap (λ sup. sup.generation) c.sup.ensures)
    (built_from (g.D.Disk.bytes c.args.disk.now) (g.D.Disk.bytes c.length.new.self) (g.D.Disk.reads c.args.disk.now)
    (g.D.Disk.reads c.length.new.self) (g.D.Disk.reads c.build_within.new.disk) c.in-Ok-Ready.field-0
    c.length.ensures.bytes c.length.ensures.reads c.in-Ok-Ready.ensures.told)

pub returns-in-Ok-Ready-clause-reads : goal.returns-in-Ok-Ready-clause-reads
returns-in-Ok-Ready-clause-reads g c =
    begins_reads (g.D.Disk.bytes c.args.disk.now) (g.D.Disk.reads c.args.disk.now) (g.D.Disk.reads c.build_within.new.disk) c.in-Ok-Ready.field-0
    c.in-Ok-Ready.index c.in-Ok-Ready.field-0-is
    (built_from (g.D.Disk.bytes c.args.disk.now) (g.D.Disk.bytes c.length.new.self) (g.D.Disk.reads c.args.disk.now)
    (g.D.Disk.reads c.length.new.self) (g.D.Disk.reads c.build_within.new.disk) c.in-Ok-Ready.field-0
    c.length.ensures.bytes c.length.ensures.reads c.in-Ok-Ready.ensures.told)

pub returns-in-Ok-Ready-clause-looks : goal.returns-in-Ok-Ready-clause-looks
returns-in-Ok-Ready-clause-looks g c =
    begins_looks (g.D.Disk.bytes c.args.disk.now) (g.D.Disk.bytes c.length.new.self) c.args.steps.now c.build_within.new.steps c.in-Ok-Ready.field-0
    c.in-Ok-Ready.index c.in-Ok-Ready.field-0-is c.length.ensures.bytes c.in-Ok-Ready.ensures.looks

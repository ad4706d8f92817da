use Rattle.std.proofs.Common.{arith}
use Rattle.plain_check.proofs.SuperLaws.{superblock_short, superblock_long}
use Rattle.plain_check.proofs.primary.read_superblock.Goals as goal

pub returns-then-end-clause-gives : goal.returns-then-end-clause-gives
returns-then-end-clause-gives g c =
    superblock_short (g.D.Disk.bytes c.args.disk.now) c.args.cache.now (g.D.Disk.len c.args.disk.now) c.args.end c.of_image.result
    (g.met.D.Disk.told_length c.args.disk.now) c.requires.end c.if-end.true c.of_image.ensures

pub returns-in-Ok-clause-gives : goal.returns-in-Ok-clause-gives
returns-in-Ok-clause-gives g c =
    superblock_long (g.D.Disk.bytes c.args.disk.now) c.args.cache.now (g.D.Disk.len c.args.disk.now) c.args.end c.read_under.new.into _
    (g.met.D.Disk.told_length c.args.disk.now) c.requires.end (omega arith) c.in_ok-read_under.ensures.bytes c.in-Ok.ensures.rules

pub returns-in-Err-clause-gives : goal.returns-in-Err-clause-gives
returns-in-Err-clause-gives g c =
    superblock_long (g.D.Disk.bytes c.args.disk.now) c.args.cache.now (g.D.Disk.len c.args.disk.now) c.args.end c.read_under.new.into _
    (g.met.D.Disk.told_length c.args.disk.now) c.requires.end (omega arith) c.in_ok-read_under.ensures.bytes c.in-Err.ensures.rules

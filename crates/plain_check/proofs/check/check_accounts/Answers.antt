use Rattle.std.specs.Prelude.{Some, None}
use Rattle.plain_check.specs.Opened.{known}
use Rattle.plain_check.proofs.Sums.{told_decided}
use Rattle.plain_check.proofs.check.check_accounts.Goals as goal

pub returns-in-Some-clause-gives : goal.returns-in-Some-clause-gives
returns-in-Some-clause-gives g c =
    told_decided (g.D.Disk.bytes c.args.disk.now) c.args.cache.now (known c.args.volume.now)
    _ _ c.in_ok-found.field-0 (Some c.in-Some.found)
    c.new-accounts.ensures c.in_ok-read_all.ensures.taken (c.in_ok-found.ensures c.args.volume.now.map c.args.volume.now.sup.nodesize) c.in-Some.is

pub returns-clause-gives : goal.returns-clause-gives
returns-clause-gives g c =
    told_decided (g.D.Disk.bytes c.args.disk.now) c.args.cache.now (known c.args.volume.now)
    _ _ c.in_ok-found.field-0 None
    c.new-accounts.ensures c.in_ok-read_all.ensures.taken (c.in_ok-found.ensures c.args.volume.now.map c.args.volume.now.sup.nodesize) c.in-None.is

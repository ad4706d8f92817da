use Rattle.std.proofs.Common.{length, arith}
use Rattle.recon_core.proofs.Steps.{fetched}
use Rattle.recon_core.proofs.fetching.fetch.Goals as goal

pub returns-clause-bytes : goal.returns-clause-bytes
returns-clause-bytes g c = fetched (g.D.Disk.bytes c.args.disk.now) c.args.cache.now c.args.at (length c.deref_mut.result.now) c.in-Ok.bytes.len c.args.len c.read_under.new.into c.in-Ok.bytes.items _
    (omega (arith, c.read_under.auto.into, c.deref_mut.ensures.len)) (omega (arith, c.deref_mut.ensures.len, c.in-Ok.ensures.len)) c.in_ok-read_under.ensures.bytes c.from.ensures

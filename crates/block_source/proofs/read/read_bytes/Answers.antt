use Rattle.std.proofs.Common.{length, sym, ◌∙◌}
use Rattle.block_source.specs.Private.{lending}
use Rattle.block_source.proofs.Copies.{block_read}
use Rattle.block_source.proofs.read.read_bytes.Goals as goal

pub returns-clause-gives : goal.returns-clause-gives
returns-clause-gives g c =
    block_read g.D.Disk c.args.disk.now c.args.source.now.cache.now (lending c.read_copies.result) c.args.source.now.map.now (length c.args.first.now) c.args.source.now.end c.args.e.now
    (g.met.D.Disk.told_length c.args.disk.now) c.requires.end (sym c.is_multiple.ensures ∙ c.if-not-is_multiple.false) (rw c.place-place.ensures at c.read_copies.ensures.gives)

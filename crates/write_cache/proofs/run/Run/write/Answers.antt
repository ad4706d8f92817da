use Rattle.std.proofs.Common.{rules, sym, arith}
use Rattle.write_cache.proofs.RoomLaws.{laid_in}
use Rattle.write_cache.proofs.run.Run.write.Goals as goal

pub returns : goal.returns
returns c =
    laid_in c.self.inside.buffer.items c.deref_mut.result.now c.overwrite.new.into c.args.self.now c.args.bytes.now
    c.self.inside.start c.args.from c.self.inside.buffer.len c.self.invariant (sym c.self.view_is) (omega arith) (search rules)
    c.deref_mut.ensures.value c.overwrite.ensures

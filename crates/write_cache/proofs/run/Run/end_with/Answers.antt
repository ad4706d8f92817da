use Rattle.std.proofs.Common.{sym}
use Rattle.write_cache.proofs.RoomLaws.{ended}
use Rattle.write_cache.proofs.run.Run.end_with.Goals as goal

pub returns-clause-ok : goal.returns-clause-ok
returns-clause-ok c =
    ended c.self.inside.buffer.items c.reserve.new.self.items c.truncate.new.self.items c.extend_from_slice.new.self.items c.extend_from_slice-2.new.self.items
    c.args.self.now c.args.bytes.now c.args.more.now c.self.inside.start c.args.from c.self.invariant (sym c.self.view_is) c.requires.place
    c.reserve.ensures.items c.truncate.ensures.items c.in_ok-extend_from_slice.ensures.items c.in_ok-extend_from_slice-2.ensures.items

use Rattle.std.proofs.Common.{rules, ◌≤◌, ◌∙◌, sym, arith}
use Rattle.write_cache.proofs.RoomLaws.{begun}
use Rattle.write_cache.proofs.run.Run.begin_with.Goals as goal

pub returns-clause-ok : goal.returns-clause-ok
returns-clause-ok c =
    let needed : c.saturating_sub.result ≤ c.in_ok-start.start = c.in_ok-start.ensures.ok.0 in
    begun c.make_room.new.buffer.items c.deref_mut.result.now c.overwrite.new.into c.deref_mut-2.result.now c.overwrite-2.new.into
    c.args.self.now c.args.bytes.now c.args.more.now c.in_ok-start.start c.args.skip _ c.make_room.new.buffer.len
    c.in_ok-start.ensures.ok.1 (sym c.self.view_is ∙ sym c.in_ok-start.ensures.ok.2) c.requires.place (omega arith) (search rules)
    c.deref_mut.ensures.value c.overwrite.ensures c.deref_mut-2.ensures.value c.overwrite-2.ensures

use Rattle.touched_blocks.proofs.MarkLaws.{put_count, put_mark}
use Rattle.touched_blocks.proofs.marks.Marks.put.Goals as goal

pub returns-clause-ok : goal.returns-clause-ok
returns-clause-ok c =
    put_mark c.args.self.now (record { places = c.insert.new.self }) c.args.tree c.args.address c.place_of.result c.place_of.ensures c.in_ok-insert.ensures.updates

pub returns-clause-count : goal.returns-clause-count
returns-clause-count c =
    put_count c.args.self.now (record { places = c.insert.new.self }) c.args.tree c.args.address c.place_of.result _ c.place_of.ensures c.in_ok-insert.ensures.added c.in_ok-insert.ensures.len

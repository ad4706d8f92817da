use Rattle.std.proofs.Common.{ap}
use Rattle.std.specs.Option.{option_copied}
use Rattle.records.specs.Part.{part_of}
use Rattle.commit_judge.proofs.starts.Posts.{item_none, item_some}
use Rattle.commit_judge.proofs.posts.post_item.Goals as goal

pub returns-in-Some : goal.returns-in-Some
returns-in-Some g c =
    item_some (g.C.Ctx.context c.args.ctx.now) c.in-Some.item.now (option_copied c.args.item) (part_of c.lend.result)
    c.args.into.now c.post_record.new.into c.post_record.result (ap option_copied c.in-Some.is) c.lend.ensures c.post_record.ensures.all

pub returns-in-None : goal.returns-in-None
returns-in-None g c = item_none (g.C.Ctx.context c.args.ctx.now) (option_copied c.args.item) c.args.into.now (ap option_copied c.in-None.is)

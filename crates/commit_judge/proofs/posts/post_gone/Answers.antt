use Rattle.std.proofs.Common.{ap, ◌∙◌}
use Rattle.std.proofs.lemmas.List.{take_all}
use Rattle.commit_laws.specs.Paired.{gone_items}
use Rattle.commit_laws.specs.Steps.{all_posts, change_records}
use Rattle.commit_judge.proofs.starts.Posts.{gone_more, gone_none, step_is}
use Rattle.commit_judge.proofs.posts.post_gone.Goals as goal

pub loop-change-init : goal.loop-change-init
loop-change-init g c =
    c.in_ok-into.ensures ∙ gone_none (g.C.Ctx.context c.args.ctx.now) c.args.sup.now c.args.blocks.now c.args.items.now

pub loop-change-preserved : goal.loop-change-preserved
loop-change-preserved g c =
    gone_more (g.C.Ctx.context c.args.ctx.now) c.args.sup.now c.args.blocks.now c.args.items.now c.args.changes.now c.loop-change.change-index _
    c.loop-change.into c.post_item.new.into _ c.loop-change-test.true c.loop-change.invariant c.gone_of.ensures c.in_ok-post_item.ensures

pub returns : goal.returns
returns g c =
    step_is (g.C.Ctx.context c.args.ctx.now)
    (change_records c.args.sup.now c.args.blocks.now (gone_items c.args.items.now c.args.changes.now))
    c.args.refs.now c.loop-change.into c.post_kept.new.into
    (c.loop-change.invariant
    ∙ ap (λ l. all_posts (g.C.Ctx.context c.args.ctx.now) (change_records c.args.sup.now c.args.blocks.now (gone_items c.args.items.now l)))
    (take_all c.loop-change.change-index c.args.changes.now c.loop-change-test.false))
    c.in_ok-post_kept.ensures

use Rattle.std.proofs.Common.{◌++◌, ap, sym, ◌∙◌}
use Rattle.records.specs.Contents.{super_record}
use Rattle.commit_laws.specs.Steps.{posts_of}
use Rattle.commit_judge.proofs.starts.Posts.{blocks_more, posts_one}
use Rattle.commit_judge.proofs.posts.post_blocks.Goals as goal

pub loop-block-init : goal.loop-block-init
loop-block-init g c =
    c.in_ok-post_record.ensures.all
    ∙ ap (λ l. l ++ posts_of (g.C.Ctx.context c.args.ctx.now) (super_record c.args.sup.now)) c.new-into.ensures
    ∙ sym (posts_one (g.C.Ctx.context c.args.ctx.now) (super_record c.args.sup.now))

pub loop-block-preserved : goal.loop-block-preserved
loop-block-preserved g c =
    blocks_more (g.C.Ctx.context c.args.ctx.now) c.args.sup.now c.args.blocks.now c.loop-block.block-index _ c.loop-block.into
    c.post_record-in-loop-block.new.into c.loop-block-test.true c.loop-block.invariant c.in_ok-post_record-2.ensures.all

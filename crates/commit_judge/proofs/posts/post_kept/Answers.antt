use Rattle.commit_judge.proofs.starts.Posts.{kept_more}
use Rattle.commit_judge.proofs.posts.post_kept.Goals as goal

pub loop-at-preserved : goal.loop-at-preserved
loop-at-preserved g c =
    kept_more (g.C.Ctx.context c.args.ctx.now) c.args.refs.now c.loop-at.at-index _ c.args.into.now c.loop-at.into c.post_placed.new.into
    c.loop-at-test.true c.loop-at.invariant c.in_ok-post_placed.ensures

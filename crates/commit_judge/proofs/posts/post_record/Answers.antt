use Rattle.std.proofs.Common.{rules}
use Rattle.accounts.proofs.Behind.{posts_cut, posts_more}
use Rattle.commit_judge.proofs.posts.post_record.Goals as goal

pub returns-in_err-post : goal.returns-in_err-post
returns-in_err-post g c = posts_cut g.met.P.Poster.passes _ c.post.ensures (search rules) c.from_residual.ensures.0

pub returns-in_err-post-2 : goal.returns-in_err-post-2
returns-in_err-post-2 g c =
    posts_more g.met.P.Poster.passes c.post.ensures (search rules)
    (posts_cut g.met.P.Poster.passes _ c.post-2.ensures (search rules) c.from_residual-in_err-post-2.ensures.0)

pub returns-in_err-post-3 : goal.returns-in_err-post-3
returns-in_err-post-3 g c =
    posts_more g.met.P.Poster.passes c.post.ensures (search rules)
    (posts_more g.met.P.Poster.passes c.post-2.ensures (search rules)
    (posts_cut g.met.P.Poster.passes _ c.post-3.ensures (search rules) c.from_residual-in_err-post-3.ensures.0))

pub returns : goal.returns
returns g c =
    posts_more g.met.P.Poster.passes c.post.ensures (search rules)
    (posts_more g.met.P.Poster.passes c.post-2.ensures (search rules) (posts_more g.met.P.Poster.passes c.post-3.ensures (search rules) c.post_rest.ensures))

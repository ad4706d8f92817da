use Rattle.std.proofs.Common.{rules}
use Rattle.accounts.proofs.Behind.{posts_cut, posts_more}
use Rattle.dir_rules.proofs.entries.post_indexed.Goals as goal

pub returns-in_err-post_name : goal.returns-in_err-post_name
returns-in_err-post_name g c = posts_cut g.met.P.Poster.passes _ c.post_name.ensures (search rules) c.from_residual.ensures.0

pub returns : goal.returns
returns g c = posts_more g.met.P.Poster.passes c.post_name.ensures (search rules) c.post_target.ensures

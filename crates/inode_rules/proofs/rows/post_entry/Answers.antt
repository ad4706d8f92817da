use Rattle.std.proofs.Common.{rules}
use Rattle.accounts.proofs.Behind.{posts_cut, posts_more}
use Rattle.inode_rules.proofs.rows.post_entry.Goals as goal

pub returns-in_err-post_own_entry : goal.returns-in_err-post_own_entry
returns-in_err-post_own_entry g c =
    posts_cut g.met.P.Poster.passes _ c.post_own_entry.ensures (search rules) c.from_residual.ensures.0

pub returns : goal.returns
returns g c =
    posts_more g.met.P.Poster.passes c.post_own_entry.ensures (search rules) c.post_target.ensures

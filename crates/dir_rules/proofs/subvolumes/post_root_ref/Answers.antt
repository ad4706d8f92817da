use Rattle.std.proofs.Common.{rules}
use Rattle.accounts.proofs.Behind.{posts_cut, posts_more}
use Rattle.dir_rules.proofs.subvolumes.post_root_ref.Goals as goal

pub returns-in_err-post_entry : goal.returns-in_err-post_entry
returns-in_err-post_entry g c = posts_cut g.met.P.Poster.passes _ c.post_entry.ensures (search rules) c.from_residual.ensures.0

pub returns-in_err-post_pair : goal.returns-in_err-post_pair
returns-in_err-post_pair g c =
    posts_more g.met.P.Poster.passes c.post_entry.ensures (search rules)
    (posts_cut g.met.P.Poster.passes _ c.post_pair.ensures (search rules) c.from_residual-in_err-post_pair.ensures.0)

pub returns : goal.returns
returns g c =
    posts_more g.met.P.Poster.passes c.post_entry.ensures (search rules)
    (posts_more g.met.P.Poster.passes c.post_pair.ensures (search rules) c.post_child.ensures)

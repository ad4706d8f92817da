use Rattle.std.proofs.Common.{rules}
use Rattle.accounts.proofs.Behind.{posts_cut, posts_more}
use Rattle.extent_rules.proofs.rows.post_extent.Goals as goal

pub returns-in_err-put_extent : goal.returns-in_err-put_extent
returns-in_err-put_extent g c = posts_cut g.met.P.Poster.passes _ c.put_extent.ensures (search rules) c.from_residual.ensures.0

pub returns : goal.returns
returns g c = posts_more g.met.P.Poster.passes c.put_extent.ensures (search rules) c.post_references.ensures

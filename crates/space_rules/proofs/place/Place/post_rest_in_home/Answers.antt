use Rattle.std.proofs.Common.{rules}
use Rattle.accounts.proofs.Behind.{posts_cut, posts_more}
use Rattle.space_rules.proofs.place.Place.post_rest_in_home.Goals as goal

pub returns-in_err-put : goal.returns-in_err-put
returns-in_err-put g c = posts_cut g.met.P.Poster.passes _ (rw c.taken.ensures at c.put.ensures) (search rules) c.from_residual.ensures.0

pub returns : goal.returns
returns g c = posts_more g.met.P.Poster.passes (rw c.taken.ensures at c.put.ensures) (search rules) c.post_class.ensures

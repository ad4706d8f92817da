use Rattle.std.proofs.Common.{rules}
use Rattle.accounts.proofs.Behind.{posts_cut, posts_more}
use Rattle.accounts.proofs.postings.Poster.put_extent.Goals as goal

pub returns-in_err-put : goal.returns-in_err-put
returns-in_err-put g c =
    posts_cut g.met.Self.Poster.passes _ (rw c.extent.ensures at (rw c.to.ensures at c.put.ensures)) (search rules) c.from_residual.ensures.0

pub returns-in_err-put-2 : goal.returns-in_err-put-2
returns-in_err-put-2 g c =
    posts_more g.met.Self.Poster.passes (rw c.extent.ensures at (rw c.to.ensures at c.put.ensures)) (search rules)
    (posts_cut g.met.Self.Poster.passes _ (rw c.extent-2.ensures at (rw c.to-2.ensures at c.put-2.ensures)) (search rules) c.from_residual-in_err-put-2.ensures.0)

pub returns : goal.returns
returns g c =
    posts_more g.met.Self.Poster.passes (rw c.extent.ensures at (rw c.to.ensures at c.put.ensures)) (search rules)
    (posts_more g.met.Self.Poster.passes (rw c.extent-2.ensures at (rw c.to-2.ensures at c.put-2.ensures)) (search rules)
    (rw c.extent_form-form.ensures at (rw c.to-3.ensures at c.put-3.ensures)))

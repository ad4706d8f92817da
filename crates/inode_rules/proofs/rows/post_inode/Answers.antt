use Rattle.std.proofs.Common.{rules}
use Rattle.accounts.proofs.Behind.{posts_cut, posts_more}
use Rattle.inode_rules.proofs.rows.post_inode.Goals as goal

pub returns-in_err-put_inode : goal.returns-in_err-put_inode
returns-in_err-put_inode g c =
    posts_cut g.met.P.Poster.passes _ c.put_inode.ensures (search rules) c.from_residual.ensures.0

pub returns-in_err-put_inode-2 : goal.returns-in_err-put_inode-2
returns-in_err-put_inode-2 g c =
    posts_more g.met.P.Poster.passes c.put_inode.ensures (search rules) (posts_cut g.met.P.Poster.passes _ (rw c.from.ensures at c.put_inode-2.ensures) (search rules) c.from_residual-in_err-put_inode-2.ensures.0)

pub returns-in_err-post_size : goal.returns-in_err-post_size
returns-in_err-post_size g c =
    posts_more g.met.P.Poster.passes c.put_inode.ensures (search rules) (posts_more g.met.P.Poster.passes (rw c.from.ensures at c.put_inode-2.ensures) (search rules) (posts_cut g.met.P.Poster.passes _ c.post_size.ensures (search rules) c.from_residual-in_err-post_size.ensures.0))

pub returns : goal.returns
returns g c =
    posts_more g.met.P.Poster.passes c.put_inode.ensures (search rules) (posts_more g.met.P.Poster.passes (rw c.from.ensures at c.put_inode-2.ensures) (search rules) (posts_more g.met.P.Poster.passes c.post_size.ensures (search rules) (rw c.type_of_mode-sort.ensures at c.put_typed.ensures)))

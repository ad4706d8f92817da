use Rattle.std.proofs.Common.{rules}
use Rattle.accounts.proofs.Behind.{posts_cut, posts_more}
use Rattle.inode_rules.proofs.rows.post_link.Goals as goal

pub returns-in_err-put_inode : goal.returns-in_err-put_inode
returns-in_err-put_inode g c =
    posts_cut g.met.P.Poster.passes _ c.put_inode.ensures (search rules) c.from_residual.ensures.0

pub returns : goal.returns
returns g c =
    posts_more g.met.P.Poster.passes c.put_inode.ensures (search rules) c.put_inode-2.ensures

use Rattle.std.proofs.Common.{◌∙◌, ◌+◌, ◌∷◌, []}
use Rattle.accounts.specs.Kinds.{inode}
use Rattle.accounts.specs.Sums.{total_of}
use Rattle.accounts.specs.Tally.{kept}
use Rattle.inode_tally.specs.Held.{own_sums, to}
use Rattle.inode_tally.proofs.Amounts.{raised_kept}
use Rattle.inode_tally.proofs.tally.Own.raise.Goals as goal

pub returns-clause-raised : goal.returns-clause-raised
returns-clause-raised c = λ yes a.
    raised_kept c.args.self.now.tree c.args.self.now.ino c.args.self.now.sums c.raise.new.self c.args.field c.args.amount (c.raise.ensures.sums yes) c.raise.ensures.types a
    ∙ (λ i. kept a.kind (λ n. own_sums c.args.self.now a n
    + total_of (to (inode (c.if-self-tree.false i) (c.if-self-ino.false i)) c.args.field c.args.amount ∷ []) a n))

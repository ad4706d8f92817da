use Rattle.std.proofs.Common.{◌∙◌, ◌+◌, ◌∷◌, []}
use Rattle.accounts.specs.Kinds.{inode, inode_type}
use Rattle.accounts.specs.Sums.{total_of}
use Rattle.accounts.specs.Tally.{kept}
use Rattle.inode_tally.specs.Held.{own_sums, to}
use Rattle.inode_tally.proofs.Amounts.{targeted_kept}
use Rattle.inode_tally.proofs.tally.Own.raise_targets.Goals as goal

pub returns-clause-raised : goal.returns-clause-raised
returns-clause-raised c = λ yes a.
    targeted_kept c.args.self.now.tree c.args.self.now.ino c.args.sort c.args.count c.args.self.now.sums c.raise_targets.new.self
    (c.takes_type.ensures.entries (cc c.if-not-takes_type.false)) (c.takes_type.ensures.typed (cc c.if-not-takes_type.false)) (c.raise_targets.ensures.raised yes) a
    ∙ (λ i. kept a.kind (λ n. own_sums c.args.self.now a n
    + total_of (to (inode (c.if-self-tree.false i) (c.if-self-ino.false i)) 1 c.args.count ∷ to (inode_type (c.if-self-tree.false i) (c.if-self-ino.false i) c.args.sort) 0 c.args.count ∷ []) a n))

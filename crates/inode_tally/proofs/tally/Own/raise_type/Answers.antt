use Rattle.std.proofs.Common.{◌∙◌, ◌+◌, ◌∷◌, [], ap}
use Rattle.std.proofs.Math.Path.{fun_ext}
use Rattle.accounts.specs.Kinds.{inode_type}
use Rattle.accounts.specs.Sums.{total_of}
use Rattle.accounts.specs.Tally.{kept}
use Rattle.inode_tally.specs.declared.class.Gathered.{Gathered}
use Rattle.inode_tally.specs.Held.{gathered_postings, own_sums, to}
use Rattle.inode_tally.proofs.Amounts.{typed_total}
use Rattle.inode_tally.proofs.tally.Own.raise_type.Goals as goal

pub returns-clause-raised : goal.returns-clause-raised
returns-clause-raised c = λ yes a.
    ap (λ (s : Gathered). kept a.kind (total_of (gathered_postings c.args.self.now.tree c.args.self.now.ino s) a)) (c.raise_typed.ensures.raised yes)
    ∙ ap (kept a.kind) (fun_ext (typed_total c.args.self.now.tree c.args.self.now.ino c.args.sort c.args.self.now.sums
    (c.takes_type.ensures.entries (cc c.if-not-takes_type.false)) (c.takes_type.ensures.typed (cc c.if-not-takes_type.false)) a))
    ∙ (λ i. kept a.kind (λ n. own_sums c.args.self.now a n + total_of (to (inode_type (c.if-self-tree.false i) (c.if-self-ino.false i) c.args.sort) 1 1 ∷ []) a n))

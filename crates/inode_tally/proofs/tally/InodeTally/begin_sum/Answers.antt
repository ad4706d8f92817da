use Rattle.std.proofs.Common.{◌∙◌, ◌∷◌, ◌++◌, [], ap}
use Rattle.accounts.specs.Kinds.{inode}
use Rattle.accounts.proofs.Apart.{adds_listed}
use Rattle.inode_tally.specs.Held.{inodes_apart, to}
use Rattle.inode_tally.proofs.Aside.{adds_alike, first_amount}
use Rattle.verdict.proofs.Answers.{on_ok}
use Rattle.inode_tally.proofs.tally.InodeTally.begin_sum.Goals as goal

pub returns-then-raise : goal.returns-then-raise
returns-then-raise c =
    let given = to (inode c.args.tree c.args.ino) c.args.field c.args.amount ∷ [] in
    on_ok c.begin.result c.begin.ensures (λ e.
    adds_alike _ _ _ _ _ given e
    (first_amount c.none-own.result c.raise.new.self given c.none-own.ensures.sums (c.raise.ensures.raised c.if-raise.true)))

pub returns : goal.returns
returns c =
    let given = to (inode c.args.tree c.args.ino) c.args.field c.args.amount ∷ [] in
    on_ok c.push.result c.push.ensures.ok (λ e.
    adds_listed (inodes_apart c.args.self.now) c.args.into.now c.push.new.self given
    (e ∙ ap (λ p. c.args.into.now ++ p ∷ []) (c.to.ensures ∙ ap (λ a. to a c.args.field c.args.amount) c.inode.ensures)))

use Rattle.std.proofs.Common.{◌∷◌, []}
use Rattle.std.specs.BTreeMap.{get}
use Rattle.accounts.specs.Kinds.{inode}
use Rattle.inode_tally.specs.Held.{class_sums, inode_cmp, to}
use Rattle.inode_tally.proofs.Aside.{adds_stayed, beside_classes}
use Rattle.verdict.proofs.Answers.{on_ok}
use Rattle.inode_tally.proofs.tally.InodeTally.add.Goals as goal

pub returns-then-raise : goal.returns-then-raise
returns-then-raise c = beside_classes (class_sums (get inode_cmp c.args.self.now.classes)) _ _ _ _ (c.raise.ensures.raised c.if-raise.true)

pub returns : goal.returns
returns c =
    let classes = class_sums (get inode_cmp c.args.self.now.classes) in
    let given = to (inode c.args.tree c.args.ino) c.args.field c.args.amount ∷ [] in
    on_ok c.begin_sum.result c.begin_sum.ensures (λ e.
    adds_stayed classes _ c.args.self.now.owns.items c.raise.new.owns.items _ _ given (c.raise.ensures.stays c.if-raise.false) e)

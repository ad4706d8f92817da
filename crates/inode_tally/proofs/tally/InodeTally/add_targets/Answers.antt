use Rattle.std.proofs.Common.{◌∷◌, []}
use Rattle.std.specs.BTreeMap.{get}
use Rattle.accounts.specs.Kinds.{inode, inode_type}
use Rattle.inode_tally.specs.Held.{class_sums, inode_cmp, to}
use Rattle.inode_tally.proofs.Aside.{adds_stayed, beside_classes}
use Rattle.verdict.proofs.Answers.{on_ok}
use Rattle.inode_tally.proofs.tally.InodeTally.add_targets.Goals as goal

pub returns-then-raise_targets : goal.returns-then-raise_targets
returns-then-raise_targets c =
    beside_classes (class_sums (get inode_cmp c.args.self.now.classes)) _ _ _ _ (c.raise_targets.ensures.raised c.if-raise_targets.true)

pub returns : goal.returns
returns c =
    let classes = class_sums (get inode_cmp c.args.self.now.classes) in
    let given = to (inode c.args.tree c.args.ino) 1 c.args.count ∷ to (inode_type c.args.tree c.args.ino c.args.sort) 0 c.args.count ∷ [] in
    on_ok c.begin_targets.result c.begin_targets.ensures (λ e.
    adds_stayed classes _ c.args.self.now.owns.items c.raise_targets.new.owns.items _ _ given (c.raise_targets.ensures.stays c.if-raise_targets.false) e)

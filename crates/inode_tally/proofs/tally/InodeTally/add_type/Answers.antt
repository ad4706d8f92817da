use Rattle.std.proofs.Common.{◌∷◌, [], ap}
use Rattle.std.proofs.Math.Path.{fun_ext}
use Rattle.std.specs.BTreeMap.{get}
use Rattle.accounts.specs.Kinds.{inode_type}
use Rattle.accounts.specs.Tally.{kept}
use Rattle.inode_tally.specs.Held.{class_sums, inode_cmp, to}
use Rattle.inode_tally.proofs.Aside.{adds_alike, adds_stayed, beside_classes}
use Rattle.verdict.proofs.Answers.{on_ok}
use Rattle.inode_tally.proofs.tally.InodeTally.add_type.Goals as goal

pub returns-then-raise_type : goal.returns-then-raise_type
returns-then-raise_type c =
    beside_classes (class_sums (get inode_cmp c.args.self.now.classes)) _ _ _ _ (c.raise_type.ensures.raised c.if-raise_type.true)

pub returns : goal.returns
returns c =
    let classes = class_sums (get inode_cmp c.args.self.now.classes) in
    let given = to (inode_type c.args.tree c.args.ino c.args.sort) 1 1 ∷ [] in
    on_ok c.begin.result c.begin.ensures (λ e.
    adds_stayed classes _ c.args.self.now.owns.items c.raise_type.new.owns.items _ _ given (c.raise_type.ensures.stays c.if-raise_type.false)
    (adds_alike _ _ _ _ _ given e (λ a. ap (kept a.kind) (fun_ext (c.typed.ensures a)))))

use Rattle.std.proofs.Common.{◌∙◌, ap, sym, subst}
use Rattle.std.proofs.Math.Path.{fun_ext}
use Rattle.std.specs.Prelude.{Ok}
use Rattle.std.specs.BTreeMap.{get}
use Rattle.accounts.specs.Apart.{AddsUp}
use Rattle.accounts.proofs.Apart.{adds_listed}
use Rattle.inode_tally.specs.Held.{class_sums, gathered_postings, inode_cmp}
use Rattle.inode_tally.proofs.Aside.{adds_apart, class_more}
use Rattle.verdict.proofs.Answers.{on_ok}
use Rattle.inode_tally.proofs.tally.give.Goals as goal

pub returns-then-branch : goal.returns-then-branch
returns-then-branch c =
    adds_apart _ _ _ _
    (class_more (get inode_cmp c.args.classes.now) (get inode_cmp c.join.new.classes) (c.args.own.now.tree, c.args.own.now.ino) c.args.own.now.sums
    (c.join.ensures.yes (c.in_ok-join.was ∙ ap Ok c.if-branch.true)))

pub returns : goal.returns
returns c =
    let old = class_sums (get inode_cmp c.args.classes.now) in
    let given = gathered_postings c.args.own.now.tree c.args.own.now.ino c.args.own.now.sums in
    on_ok c.post.result c.post.ensures (λ e.
    subst (λ en. AddsUp old (class_sums en) c.args.into.now c.post.new.into given)
    (sym (fun_ext (c.join.ensures.no (c.in_ok-join.was ∙ ap Ok c.if-branch.false))))
    (adds_listed old c.args.into.now c.post.new.into given e))

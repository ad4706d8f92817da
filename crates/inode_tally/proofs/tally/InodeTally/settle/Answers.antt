use Rattle.std.proofs.Common.{◌+◌, [], subst}
use Rattle.std.specs.BTreeMap.{get}
use Rattle.accounts.specs.Apart.{AddsUp}
use Rattle.inode_tally.specs.Held.{class_sums, inode_cmp, inodes_apart, owns_sums}
use Rattle.inode_tally.proofs.Aside.{apart_of_others}
use Rattle.inode_tally.proofs.Settled.{all_settled}
use Rattle.verdict.proofs.Answers.{on_both}
use Rattle.inode_tally.proofs.tally.InodeTally.settle.Goals as goal

pub returns : goal.returns
returns c =
    let old = get inode_cmp c.args.self.now.classes in
    let new = get inode_cmp c.give_all.new.classes in
    let list = c.give_all.new.into in
    on_both c.settle.result c.settle.ensures.broken c.settle.ensures.others
    (all_settled (inodes_apart c.args.self.now) new list c.args.rest.now c.add_all.new.self c.settle.new.rest
    (subst (λ before. AddsUp (inodes_apart c.args.self.now) (class_sums new) before list []) c.new-into.ensures
    (subst (λ owns. AddsUp (λ a n. class_sums old a n + owns_sums owns a n) (class_sums new) c.new-into.result list []) c.deref.ensures.value c.in_ok-give_all.ensures))
    c.in_ok-add_all.ensures.sums
    (apart_of_others c.args.self.now))

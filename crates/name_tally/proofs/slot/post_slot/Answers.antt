use Rattle.std.proofs.Common.{◌∙◌, ◌++◌, ap}
use Rattle.name_tally.proofs.Sums.{entry_named, link_named, posted_slot}
use Rattle.accounts.specs.Lent.{to}
use Rattle.verdict.proofs.Answers.{on_ok}
use Rattle.name_tally.proofs.slot.post_slot.Goals as goal

pub returns : goal.returns
returns c =
    let slot = c.args.slot.now in
    let entry = entry_named slot c.name_hash-hash.result c.name-name.result.now c.name-name.ensures c.name_hash-hash.ensures in
    let named = link_named slot c.name-name.result.now c.name-name.ensures in
    on_ok c.push_all.result c.push_all.ensures.all (λ e. e ∙ ap (λ more. c.args.into.now ++ more) (posted_slot slot _ _ _ _ _ _
    (c.to.ensures ∙ (λ i. to ((c.in_ok-name_entry.ensures ∙ entry) i) 0 (c.from.ensures i)))
    (c.to-2.ensures ∙ (λ i. to ((c.in_ok-name_entry-2.ensures ∙ entry) i) 1 (c.from-2.ensures i)))
    (c.to-3.ensures ∙ (λ i. to ((c.in_ok-link.ensures ∙ named) i) 0 (c.from-3.ensures i)))
    (c.to-4.ensures ∙ (λ i. to ((c.in_ok-link-2.ensures ∙ named) i) 1 (c.from-4.ensures i)))
    (c.to-5.ensures ∙ (λ i. to (c.inode.ensures i) 1 (c.from-5.ensures i)))
    (c.to-6.ensures ∙ (λ i. to (c.inode_type.ensures i) 0 (c.from-6.ensures i)))))

use Rattle.std.proofs.Common.{◌∙◌, rules, ap, sym}
use Rattle.std.proofs.lemmas.List.{nil_from_length}
use Rattle.inode_tally.specs.Held.{owns_sums}
use Rattle.inode_tally.proofs.Aside.{none_all}
use Rattle.inode_tally.proofs.tally.make.Goals as goal

pub returns : goal.returns
returns c = λ a n.
    ap (λ os. owns_sums os a n) (c.in_ok-owns.ensures.items_if_clones_equal (λ y h. h)) ∙ none_all 64 c.none.result a n (c.none.ensures.sums a n)
    ∙ sym (ap (λ os. owns_sums os a n) (nil_from_length c.args.owns.now.items (search rules)))

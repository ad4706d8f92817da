use Rattle.std.proofs.Common.{[], ◌∷◌, refl, ap, sym, ◌∙◌}
use Rattle.std.specs.BTreeMap.{get}
use Rattle.accounts.specs.Order.{account_cmp}
use Rattle.accounts.specs.Tally.{sums_in, with_postings}
use Rattle.accounts.proofs.Kept.{with_more_first}
use Rattle.accounts.proofs.Entries.{none_kept}
use Rattle.accounts.proofs.tally.Tally.add_all.Goals as goal

-- src/tally.rt:42:9
pub loop-posting-init : goal.loop-posting-init
loop-posting-init c = refl

-- src/tally.rt:42:9
pub loop-posting-preserved : goal.loop-posting-preserved
loop-posting-preserved c =
    ap (λ s. with_postings s c.pop.new.self) c.in_ok-add.ensures
    ∙ with_more_first (sums_in c.loop-posting.self) c.pop.new.self (c.in-Some.posting ∷ [])
    ∙ ap (with_postings (sums_in c.loop-posting.self)) (sym c.in-Some.ensures)
    ∙ c.loop-posting.invariant

-- src/tally.rt:38:5
pub returns-clause-sums : goal.returns-clause-sums
returns-clause-sums c =
    sym (none_kept (get account_cmp c.loop-posting.self.entries))
    ∙ ap (with_postings (sums_in c.loop-posting.self)) (sym c.in_default.ensures.0)
    ∙ c.loop-posting.invariant

use Rattle.std.proofs.Common.{◌≡◌, ap, sym, ◌∙◌}
use Rattle.std.specs.Prelude.{ℕ}
use Rattle.accounts.specs.Sums.{sum_in}
use Rattle.ledger_keys.specs.Kept.{kept_sum}
use Rattle.ledger_keys.proofs.KeptLaws.{zero_few}
use Rattle.ledger_keys.proofs.kept.Kept.is_zero.Goals as goal

pub returns-in-Few : goal.returns-in-Few
returns-in-Few c = zero_few c.args.self.now c.in-Few.few c.are_zero.result c.in-Few.is c.are_zero.ensures

pub returns-in-Whole : goal.returns-in-Whole
unfolding kept_sum
returns-in-Whole c =
    let e : (n : ℕ) → kept_sum c.args.self.now n ≡ sum_in c.deref.result.now n =
    λ n. ap (λ k. kept_sum k n) c.in-Whole.is ∙ ap (λ t. sum_in t n) (sym c.deref.ensures) in
    (λ is n. e n ∙ c.are_zero_whole.ensures.0 is n, λ none. c.are_zero_whole.ensures.1 (λ n. sym (e n) ∙ none n))

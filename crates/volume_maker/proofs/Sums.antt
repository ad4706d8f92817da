-- The sums of sectors, one after another.
use Rattle.std.proofs.Common.{◌≡◌, ℕ, zero, suc, ◌+◌, [], ◌++◌, refl, sym, ap, ◌∙◌, add-one, append_assoc, append-nil}
use Rattle.image_maker.specs.Numbers.{u32}
use Rattle.volume_maker.specs.Items.{sums_bytes}

pub no_sums : (sum : ℕ) → sums_bytes sum 0 ≡ []
unfolding sums_bytes
no_sums sum = refl

last_sum : (sum n : ℕ) → sums_bytes sum (suc n) ≡ sums_bytes sum n ++ u32 sum
unfolding sums_bytes
last_sum sum zero = append-nil (u32 sum)
last_sum sum (suc n) = ap (λ l. u32 sum ++ l) (last_sum sum n) ∙ sym (append_assoc (u32 sum) (sums_bytes sum n) (u32 sum))

-- the sum of one more sector stands behind the others
pub one_sum_more : (sum n : ℕ) → sums_bytes sum (n + 1) ≡ sums_bytes sum n ++ u32 sum
one_sum_more sum n = ap (sums_bytes sum) (add-one n) ∙ last_sum sum n

-- What is kept of the nine sums of one account. It serves to state what private functions keep.
use Rattle.std.specs.Prelude.{◌≡◌, ℕ, ◌-◌, ◌&&◌, ◌==◌, Bool, true, false, not, nat_lt, List, [], ◌∷◌, take, Option, Some, None, slice_index, if◌then◌else◌}
use Rattle.accounts.specs.Sums.{sum_in}
use Rattle.ledger_keys.specs.declared.kept.Kept.{Kept}
use Rattle.ledger_keys.specs.declared.kept.Kept.TheVariants.{Few, Long, Whole}

-- one of the sums
unfoldable pub kept_sum : Kept → ℕ → ℕ
kept_sum (Few few) n = slice_index few n
kept_sum (Long few long) n = if nat_lt n 7 then slice_index few n else slice_index long (n - 7)
kept_sum (Whole totals) n = sum_in totals.value n

-- all nine are zero
abbrev pub IsZero : Kept → Type 0
IsZero kept = (n : ℕ) → kept_sum kept n ≡ 0

-- the sums of an entry, none where there is no entry
abbrev pub sums_at : Option Kept → ℕ → ℕ
sums_at None n = 0
sums_at (Some kept) n = kept_sum kept n

-- whether numbers are all zero
unfoldable pub are_zero : List ℕ → Bool
are_zero [] = true
are_zero (x ∷ xs) = x == 0 && are_zero xs

-- whether all nine sums are
unfoldable pub is_zero : Kept → Bool
is_zero (Few few) = are_zero few
is_zero (Long few long) = are_zero (take 7 few) && are_zero long
is_zero (Whole totals) = are_zero totals.value.f

-- whether something is kept of an account that is not zero
abbrev pub stands : Option Kept → Bool
stands None = false
stands (Some kept) = not (is_zero kept)

-- Words on the places of a block's entries, counted from 0.
use Rattle.std.specs.Prelude.{ℕ, zero, suc, Bool, List, [], ◌∷◌, Option, Some, None, if◌then◌else◌}

-- the least of the n places from one on at which a test holds
unfoldable pub least_from : (ℕ → Bool) → ℕ → ℕ → Option ℕ
least_from test at zero = None
least_from test at (suc n) = if test at then Some at else least_from test (suc at) n

-- what stands at each of the n places from one on
unfoldable pub each_from : {A : Type 0} → (ℕ → A) → ℕ → ℕ → List A
each_from entry at zero = []
each_from entry at (suc n) = entry at ∷ each_from entry (suc at) n

-- the place that was found, else 0
abbrev pub place_or_zero : Option ℕ → ℕ
place_or_zero (Some place) = place
place_or_zero None = 0

-- Which of a sink's calls a list names.
use Rattle.std.specs.Prelude.{ℕ, nat_eq, List, Option}
use Rattle.std.specs.List.{find}

-- the first entry of a list that names the call with this number
unfoldable pub listed_piece : List (ℕ × ℕ) → ℕ → Option (ℕ × ℕ)
listed_piece fails nth = find (λ p. nat_eq p.0 nth) fails

-- The sums of the two accounts of a name, among the nine that are kept of it.
use Rattle.std.specs.Prelude.{◌≡◌, ℕ, ◌+◌, Bool, false, not, ◌&&◌, ◌==◌, nat_lt, if◌then◌else◌}
use Rattle.ledger_keys.specs.declared.name.Side.{Side}
use Rattle.ledger_keys.specs.declared.name.Side.TheVariants.{Entry, Link}

-- where the first of the two sums of a side is among the nine, where its number is, and the number
abbrev pub first_of : Side → ℕ
first_of (Entry hash) = 0
first_of (Link index) = 2

abbrev pub mark_of : Side → ℕ
mark_of (Entry hash) = 7
mark_of (Link index) = 8

abbrev pub number_of : Side → ℕ
number_of (Entry hash) = hash
number_of (Link index) = index

-- a sum of a side, which is zero where another number stands
abbrev pub side_of : (ℕ → ℕ) → Side → ℕ → ℕ
side_of f side n = if f (mark_of side) == number_of side && nat_lt n 2 then f (first_of side + n) else 0

-- whether two sides are one
abbrev pub is_same_side : Side → Side → Bool
is_same_side (Entry x) (Entry y) = x == y
is_same_side (Link x) (Link y) = x == y
is_same_side (Entry x) (Link y) = false
is_same_side (Link x) (Entry y) = false

-- whether the first two sums are not both zero
abbrev pub has_sums : (ℕ → ℕ) → Bool
has_sums f = not (f 0 == 0 && f 1 == 0)

-- a sum of one of the sides is not zero
abbrev pub IsCounted : (ℕ → ℕ) → Type 0
IsCounted f = f 0 ≡ 0 → f 1 ≡ 0 → f 2 ≡ 0 → f 3 ≡ 0 → ⊥

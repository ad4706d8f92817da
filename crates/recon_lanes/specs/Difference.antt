-- Where two lists of bytes of one length differ.
use Rattle.std.specs.Prelude.{ℕ, ◌≡◌, ◌<◌, zero, suc, Bool, not, ◌==◌, List, length, slice_index, Option, Some, None, if◌then◌else◌}

-- the least of the n places from one on at which a test holds
unfoldable pub least_from : (ℕ → Bool) → ℕ → ℕ → Option ℕ
least_from test at zero = None
least_from test at (suc n) = if test at then Some at else least_from test (suc at) n

-- whether two lists of bytes differ at a place
unfoldable pub differs_at : List ℕ → List ℕ → ℕ → Bool
differs_at first second place = not (slice_index first place == slice_index second place)

-- the least place of a list at which another differs from it
abbrev pub least_difference : List ℕ → List ℕ → Option ℕ
least_difference first second = least_from (differs_at first second) 0 (length first)

-- the two are equal at each place before this one
abbrev pub AreEqualBelow : List ℕ → List ℕ → ℕ → Type 0
AreEqualBelow first second end = (place : ℕ) → place < end → slice_index first place ≡ slice_index second place

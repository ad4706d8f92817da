-- The least place at which two lists of bytes differ is that which lanes find.
use Rattle.std.proofs.Common.{◌≡◌, ℕ, zero, suc, Bool, List, length, refl, ap, ◌∙◌, if◌then◌else◌}
use Rattle.std.specs.Prelude.{Some}
use Rattle.node_reader.specs.Stored.{differs_at, least_difference}
use Rattle.node_reader.specs.Places.{least_from}
use Rattle.recon_lanes.specs.Difference.{differs_at as differs_in, least_difference as least_in_lanes, least_from as least_of}

-- the same test at a place, and the least place of the same test
same_from : (test : ℕ → Bool) (at n : ℕ) → least_of test at n ≡ least_from test at n
unfolding least_of least_from
same_from test at zero = refl
same_from test at (suc n) = ap (λ rest. if test at then Some at else rest) (same_from test (suc at) n)

same_test : (first second : List ℕ) → differs_in first second ≡ differs_at first second
unfolding differs_in differs_at
same_test first second = refl

pub same_difference : (first second : List ℕ) → least_in_lanes first second ≡ least_difference first second
same_difference first second =
    ap (λ test. least_of test 0 (length first)) (same_test first second) ∙ same_from (differs_at first second) 0 (length first)

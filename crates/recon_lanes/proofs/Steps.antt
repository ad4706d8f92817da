-- The steps of the loops over two lists of bytes.
use Rattle.std.proofs.Common.{◌≡◌, ℕ, zero, suc, ◌+◌, ◌-◌, ◌<◌, ◌≤◌, List, Bool, true, false, not, cond, length, take, drop, ◌⊎◌, inl, inr, refl, sym, ap, ◌∙◌, arith}
use Rattle.std.specs.Prelude.{Some, None, ◌==◌, nat_eq, slice_index}
use Rattle.std.proofs.lemmas.Bool.{eq-eqb, cases_lt}
use Rattle.std.proofs.lemmas.List.{get_or-drop, get_or-take}
use Rattle.std.proofs.Math.Nat.{sub-zero}
use Rattle.recon_lanes.specs.Difference.{differs_at, least_from}

-- the least of some places is the first or one of the others
pub least_of_some : (test : ℕ → Bool) (at n : ℕ) → least_from test at (suc n) ≡ cond (test at) (Some at) (least_from test (suc at) n)
unfolding least_from
least_of_some test at n = refl

least_of_none : (test : ℕ → Bool) (at : ℕ) → least_from test at zero ≡ None
unfolding least_from
least_of_none test at = refl

-- the test holds at the first place that is left
pub least_from_here : (test : ℕ → Bool) (at end : ℕ) → at < end → test at ≡ true → least_from test at (end - at) ≡ Some at
least_from_here test at end inside holds =
    let left : end - at ≡ suc (end - suc at) = omega arith in
    rw (left, least_of_some, holds) refl

-- the test does not hold at the first place that is left
pub least_from_past : (test : ℕ → Bool) (at end : ℕ) → at < end → test at ≡ false
    → least_from test at (end - at) ≡ least_from test (at + 1) (end - (at + 1))
least_from_past test at end inside holds =
    let left : end - at ≡ suc (end - (at + 1)) = omega arith in
    let next : at + 1 ≡ suc at = omega arith in
    rw (left, least_of_some, holds, ← next) refl

-- no place is left
pub least_from_end : (test : ℕ → Bool) (at end : ℕ) → end ≤ at → least_from test at (end - at) ≡ None
least_from_end test at end past =
    let left : end - at ≡ zero = omega arith in
    rw (left, least_of_none) refl

pub differs_is : (first second : List ℕ) (place : ℕ) → differs_at first second place ≡ not (slice_index first place == slice_index second place)
unfolding differs_at
differs_is first second place = refl

pub ruleset difference_steps = (least_from_here, least_from_past, least_from_end, differs_is)

same_is : (x y : ℕ) → x ≡ y → not (nat_eq x y) ≡ false
same_is x y same = ap not (eq-eqb x y same)

-- the places of an equal front do not count
pub least_from_front : (first second : List ℕ) (front n : ℕ) → front ≤ n
    → ((place : ℕ) → place < front → slice_index first place ≡ slice_index second place)
    → least_from (differs_at first second) 0 n ≡ least_from (differs_at first second) front (n - front)
least_from_front first second zero n inside same = ap (least_from (differs_at first second) 0) (sym (sub-zero n))
least_from_front first second (suc front) n inside same =
    let here : differs_at first second front ≡ false = differs_is first second front ∙ same_is _ _ (same front (omega arith)) in
    let next : front + 1 ≡ suc front = omega arith in
    least_from_front first second front n (omega arith) (λ place before. same place (omega arith))
    ∙ least_from_past (differs_at first second) front n (omega arith) here
    ∙ ap (λ k. least_from (differs_at first second) k (n - k)) next

-- an equal step behind an equal front
pub front_goes_on : (a b : List ℕ) (front step : ℕ) → length b ≡ length a → front + step ≤ length a
    → ((place : ℕ) → place < front → slice_index a place ≡ slice_index b place)
    → ((place : ℕ) → place < step → slice_index (take (length a - front) (drop front a)) place ≡
    slice_index (take (length b - front) (drop front b)) place)
    → (place : ℕ) → place < front + step → slice_index a place ≡ slice_index b place
front_goes_on a b front step long room before behind place inside = by (cases_lt place front)
  where
    from : (s : List ℕ) → length s ≡ length a → front ≤ place
        → slice_index (take (length s - front) (drop front s)) (place - front) ≡ slice_index s place
    from s size past =
        let at : front + (place - front) ≡ place = omega (arith, past) in
        get_or-take (length s - front) (drop front s) (place - front) 0 (omega (arith, size))
        ∙ get_or-drop front s (place - front) 0
        ∙ ap (slice_index s) at

    by : (place < front) ⊎ (front ≤ place) → slice_index a place ≡ slice_index b place
    by (inl early) = before place early
    by (inr past) = sym (from a refl past) ∙ behind (place - front) (omega (arith, past)) ∙ from b long past

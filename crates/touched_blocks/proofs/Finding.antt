-- Which of some ranges in rising order have an offset of a range.
use Rattle.std.proofs.Common.{◌≡◌, ℕ, zero, suc, ◌+◌, ◌<◌, ◌≤◌, Bool, true, false, ◌||◌, leb, ltb, cond, List, [], ◌∷◌, length, take, drop, get_or, inl, inr, sym, ◌∙◌, refl, ap, subst, arith}
use Rattle.std.specs.List.{AllWithin, count_by, list_any}
use Rattle.std.specs.List.Sorted.{IsNonDecreasingBy, IsPartitionPoint, IsPartitionedBy}
use Rattle.std.proofs.lemmas.Bool.{cases_lt}
use Rattle.std.proofs.lemmas.Bool.Decides.{nat_tests}
use Rattle.std.proofs.lemmas.List.Sorted.{IsNonDecreasingBy-drop, IsNonDecreasingBy-take, IsPartitionedBy-leb, IsPartitionedBy-ltb}
use Rattle.std.proofs.lemmas.List.Sums.{sum_by-take-drop, sum_by-take-le}
use Rattle.touched_blocks.specs.declared.spot.Spot.{Spot}
use Rattle.touched_blocks.specs.Spots.{StandApart, has_offset}

-- ends rise, so those that end at most at an offset stand in front; and so do begins
pub ends_parted : (spots : List Spot) (from : ℕ) → StandApart spots → IsPartitionedBy (λ (s : Spot). leb (s.at + s.len) from) spots
ends_parted spots from apart = IsPartitionedBy-leb (λ (s : Spot). s.at + s.len) spots from rise
  where
    rise : IsNonDecreasingBy (λ (s : Spot). s.at + s.len) spots
    rise i j d upto inside =
        elim (cases_lt i j) [
          | inl before ↦ let ends : (get_or spots i d).at + (get_or spots i d).len ≤ (get_or spots j d).at = apart i j d before inside in omega arith
          | inr same ↦ let is : i ≡ j = omega arith in subst (λ k. (get_or spots i d).at + (get_or spots i d).len ≤ (get_or spots k d).at + (get_or spots k d).len) is (omega arith)
        ]

pub begins_parted : (spots : List Spot) (first count end : ℕ) → StandApart spots → IsPartitionedBy (λ (s : Spot). ltb s.at end) (take count (drop first spots))
begins_parted spots first count end apart =
    IsPartitionedBy-ltb (λ (s : Spot). s.at) (take count (drop first spots)) end
    (IsNonDecreasingBy-take (λ (s : Spot). s.at) count (drop first spots) (IsNonDecreasingBy-drop (λ (s : Spot). s.at) first spots rise))
  where
    rise : IsNonDecreasingBy (λ (s : Spot). s.at) spots
    rise i j d upto inside =
        elim (cases_lt i j) [
          | inl before ↦ let ends : (get_or spots i d).at + (get_or spots i d).len ≤ (get_or spots j d).at = apart i j d before inside in omega arith
          | inr same ↦ let is : i ≡ j = omega arith in subst (λ k. (get_or spots i d).at ≤ (get_or spots k d).at) is (omega arith)
        ]

-- what does not pass a test may be left out in front, and behind
any_behind : {X : Type 0} (p : X → Bool) (xs : List X) (i : ℕ) → AllWithin (λ x. p x ≡ false) xs 0 i → list_any p (drop i xs) ≡ list_any p xs
any_behind p [] zero none = refl
any_behind p [] (suc i) none = refl
any_behind p (x ∷ xs) zero none = refl
any_behind p (x ∷ xs) (suc i) none =
    any_behind p xs i (λ k d low high. none (suc k) d (omega arith) (omega arith)) ∙ sym (ap (λ b. b || list_any p xs) (none 0 x (omega arith) (omega arith)))

any_before : {X : Type 0} (p : X → Bool) (xs : List X) (i : ℕ) → AllWithin (λ x. p x ≡ false) xs i (length xs) → list_any p (take i xs) ≡ list_any p xs
any_before p [] zero none = refl
any_before p [] (suc i) none = refl
any_before p (x ∷ xs) zero none =
    any_before p xs zero (λ k d low high. none (suc k) d (omega arith) (omega arith)) ∙ sym (ap (λ b. b || list_any p xs) (none 0 x (omega arith) (omega arith)))
any_before p (x ∷ xs) (suc i) none = ap (λ b. p x || b) (any_before p xs i (λ k d low high. none (suc k) d (omega arith) (omega arith)))

-- an offset of a range is none of what ends before the range, or begins behind it
ends_below : (from o : ℕ) (s : Spot) → from ≤ o → leb (s.at + s.len) from ≡ true → has_offset o s ≡ false
ends_below from o s low h = grind (arith, nat_tests)

begins_above : (end o : ℕ) (s : Spot) → o < end → ltb s.at end ≡ false → has_offset o s ≡ false
begins_above end o s high h = grind (arith, nat_tests)

pub spots_found : (spots rest : List Spot) (from len first count o : ℕ) → rest ≡ drop first spots
    → IsPartitionPoint (λ (s : Spot). leb (s.at + s.len) from ≡ true) (λ (s : Spot). leb (s.at + s.len) from ≡ false) spots first
    → IsPartitionPoint (λ (s : Spot). ltb s.at (from + len) ≡ true) (λ (s : Spot). ltb s.at (from + len) ≡ false) rest count
    → from ≤ o → o < from + len → list_any (has_offset o) (take count rest) ≡ list_any (has_offset o) spots
spots_found spots rest from len first count o is ends begins low high =
    any_before (has_offset o) rest count (λ k d h l. begins_above (from + len) o _ high (begins.1 k d h l))
    ∙ ap (list_any (has_offset o)) is
    ∙ any_behind (has_offset o) spots first (λ k d h l. ends_below from o _ low (ends.0 k d h l))

-- of those that are found no more pass a test than of all
pub found_fewer : {X : Type 0} (test : X → Bool) (xs : List X) (i m n : ℕ) → count_by test (take n (take m (drop i xs))) ≤ count_by test xs
found_fewer test xs i m n =
    let one : count_by test (take n (take m (drop i xs))) ≤ count_by test (take m (drop i xs)) = sum_by-take-le (λ x. cond (test x) 1 0) (take m (drop i xs)) n in
    let two : count_by test (take m (drop i xs)) ≤ count_by test (drop i xs) = sum_by-take-le (λ x. cond (test x) 1 0) (drop i xs) m in
    let three : count_by test (take i xs) + count_by test (drop i xs) ≡ count_by test xs = sum_by-take-drop (λ x. cond (test x) 1 0) xs i in
    omega arith

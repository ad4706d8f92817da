-- The sums of an account in seven small numbers and two longer ones.
use Rattle.std.proofs.Common.{◌≡◌, ◌+◌, ◌-◌, ◌<◌, ◌≤◌, ◌==◌, ℕ, Bool, true, false, not, List, [], ◌∷◌, take, refl, ap, sym, ◌∙◌, subst, arith, slice_index, ⊎_elim, length, zero, suc}
use Rattle.std.specs.Prelude.{Option, Some, None, IsTrue, ◌↔◌, replicate}
use Rattle.std.proofs.lemmas.List.{get_or_past}
use Rattle.std.proofs.lemmas.Bool.{cases_lt, eq-eqb, eqb-true, lt-ltb}
use Rattle.ledger_keys.specs.declared.kept.Kept.{Kept}
use Rattle.ledger_keys.specs.declared.kept.Kept.TheVariants.{Few, Long, Whole}
use Rattle.ledger_keys.specs.Kept.{IsZero, are_zero, is_zero, kept_sum, stands, sums_at}
use Rattle.ledger_keys.specs.PlaceLaws.{both, join}
use Rattle.verdict.proofs.Truth.{true_of_not}

pub kept_first : (few long : List ℕ) (n : ℕ) → n < 7 → kept_sum (Long few long) n ≡ slice_index few n
unfolding kept_sum
kept_first few long n small = rw (lt-ltb n 7 small) refl

pub kept_last : (few long : List ℕ) (n : ℕ) → 7 ≤ n → kept_sum (Long few long) n ≡ slice_index long (n - 7)
unfolding kept_sum
kept_last few long n big = grind (arith)

-- both parts say what they should
pub long_by : (few long : List ℕ) (is : ℕ → ℕ) → ((n : ℕ) → n < 7 → slice_index few n ≡ is n) → ((n : ℕ) → slice_index long n ≡ is (n + 7))
    → (n : ℕ) → kept_sum (Long few long) n ≡ is n
long_by few long is first last n =
    ⊎_elim (λ small. kept_first few long n small ∙ first n small)
    (λ big. kept_last few long n big ∙ last (n - 7) ∙ ap is (omega arith)) (cases_lt n 7)

-- of no sums each is zero
pub none_by : (count n : ℕ) → slice_index (replicate count 0) n ≡ 0
none_by zero n = refl
none_by (suc count) zero = refl
none_by (suc count) (suc n) = none_by count n

-- of two numbers
pub two_by : (long : List ℕ) (is : ℕ → ℕ) → length long ≡ 2 → slice_index long 0 ≡ is 0 → slice_index long 1 ≡ is 1 → ((n : ℕ) → 2 ≤ n → is n ≡ 0)
    → (n : ℕ) → slice_index long n ≡ is n
two_by long is size first second past zero = first
two_by long is size first second past (suc zero) = second
two_by long is size first second past (suc (suc n)) = get_or_past long (suc (suc n)) 0 (omega arith) ∙ sym (past (suc (suc n)) (omega arith))

-- all are zero
pub zero_few : (kept : Kept) (few : List ℕ) (b : Bool) → kept ≡ Few few → IsTrue b ↔ ((n : ℕ) → slice_index few n ≡ 0) → IsTrue b ↔ IsZero kept
unfolding kept_sum
zero_few kept few b at is = subst (λ k. IsTrue b ↔ IsZero k) (sym at) is

pub zero_long : (few long : List ℕ) (b : Bool) → length few ≡ 7 → length long ≡ 2 → IsTrue b ↔ ((n : ℕ) → slice_index few n ≡ 0)
    → slice_index long 0 ≡ 0 → slice_index long 1 ≡ 0 → IsTrue b ↔ IsZero (Long few long)
zero_long few long b small size is first second = (
  λ t n. long_by few long (λ _. 0) (λ k _. is.0 t k) (two_by long (λ _. 0) size first second (λ k _. refl)) n,
  λ none. is.1 (λ n. ⊎_elim (λ low. sym (kept_first few long n low) ∙ none n) (λ high. get_or_past few n 0 (omega arith)) (cases_lt n 7)),
)

-- not all, if one of the last two is not
pub not_zero_long : (few long : List ℕ) → IsZero (Long few long) → (slice_index long 0 ≡ 0) × (slice_index long 1 ≡ 0)
not_zero_long few long none =
    (sym (kept_last few long 7 (omega arith)) ∙ none 7, sym (kept_last few long 8 (omega arith)) ∙ none 8)

-- ---- whether all are zero, as a test

zero_list : (xs : List ℕ) → are_zero xs ≡ true → (n : ℕ) → slice_index xs n ≡ 0
unfolding are_zero
zero_list [] is n = refl
zero_list (x ∷ xs) is zero = eqb-true x 0 (both (x == 0) (are_zero xs) is).0
zero_list (x ∷ xs) is (suc n) = zero_list xs (both (x == 0) (are_zero xs) is).1 n

list_zero : (xs : List ℕ) → ((n : ℕ) → slice_index xs n ≡ 0) → are_zero xs ≡ true
unfolding are_zero
list_zero [] zeros = refl
list_zero (x ∷ xs) zeros = join (x == 0) (are_zero xs) (eq-eqb x 0 (zeros 0)) (list_zero xs (λ n. zeros (suc n)))

-- of the first ones
front_zero : (count : ℕ) (xs : List ℕ) → are_zero (take count xs) ≡ true → (n : ℕ) → n < count → slice_index xs n ≡ 0
unfolding are_zero
front_zero zero xs is n small = absurd (omega (arith, small))
front_zero (suc count) [] is n small = refl
front_zero (suc count) (x ∷ xs) is zero small = eqb-true x 0 (both (x == 0) (are_zero (take count xs)) is).0
front_zero (suc count) (x ∷ xs) is (suc n) small = front_zero count xs (both (x == 0) (are_zero (take count xs)) is).1 n (omega (arith, small))

zero_front : (count : ℕ) (xs : List ℕ) → ((n : ℕ) → n < count → slice_index xs n ≡ 0) → are_zero (take count xs) ≡ true
unfolding are_zero
zero_front zero xs zeros = refl
zero_front (suc count) [] zeros = refl
zero_front (suc count) (x ∷ xs) zeros =
    join (x == 0) (are_zero (take count xs)) (eq-eqb x 0 (zeros 0 (omega arith))) (zero_front count xs (λ n small. zeros (suc n) (omega (arith, small))))

zero_then : (kept : Kept) → is_zero kept ≡ true → IsZero kept
unfolding is_zero kept_sum
zero_then (Few few) is n = zero_list few is n
zero_then (Long few long) is n =
    let parts = both (are_zero (take 7 few)) (are_zero long) is in
    long_by few long (λ _. 0) (λ k small. front_zero 7 few parts.0 k small) (λ k. zero_list long parts.1 k) n
zero_then (Whole totals) is n = zero_list totals.value.f is n

then_zero : (kept : Kept) → IsZero kept → is_zero kept ≡ true
unfolding is_zero kept_sum
then_zero (Few few) zeros = list_zero few zeros
then_zero (Long few long) zeros =
    join (are_zero (take 7 few)) (are_zero long) (zero_front 7 few (λ n small. sym (kept_first few long n small) ∙ zeros n))
    (list_zero long (λ n. sym (last_is long n) ∙ sym (kept_last few long (n + 7) (omega arith)) ∙ zeros (n + 7)))
  where
    last_is : (xs : List ℕ) (n : ℕ) → slice_index xs (n + 7 - 7) ≡ slice_index xs n
    last_is xs n = ap (slice_index xs) (omega arith)
then_zero (Whole totals) zeros = list_zero totals.value.f zeros

-- something is kept of exactly the accounts whose sums are not all zero
pub stands_law : (entry : Option Kept) → (stands entry ≡ false) ↔ ((n : ℕ) → sums_at entry n ≡ 0)
stands_law None = (λ is n. refl, λ zeros. refl)
stands_law (Some kept) = (λ is. zero_then kept (true_of_not (is_zero kept) is), λ zeros. ap not (then_zero kept zeros))

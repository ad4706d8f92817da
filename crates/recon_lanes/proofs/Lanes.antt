-- What the comparison of lanes says of two lists of bytes.
use Rattle.std.proofs.Common.{◌≡◌, ℕ, ◌+◌, subst, inl, inr, ◌/◌, ◌%◌, ◌^◌, ◌<◌, ◌≤◌, List, Bool, true, false, not, cond, length, take, get_or, map, refl, sym, ap, ◌∙◌, arith}
use Rattle.std.specs.Prelude.{nat_eq}
use Rattle.std.proofs.lemmas.Nat.{le_or_l, le_or_r}
use Rattle.std.proofs.lemmas.Bool.{cases_lt}
use Rattle.std.specs.Int.Bits.{bit_or, bit_xor, xor_assoc, xor_self, xor_zero_r}
use Rattle.recon_lanes.specs.Difference.{AreEqualBelow}
use Rattle.std.specs.Simd.Lanes.{mask_l, top, zip2}
use Rattle.std.specs.Int.{w8}
use Rattle.std.proofs.Math.Nat.{zero-div}
use Rattle.std.proofs.lemmas.Bool.{eqb-true, not-false}
use Rattle.std.proofs.lemmas.List.{get_or-take, length-take-le}
use Rattle.std.proofs.lemmas.Simd.{tops_compared, mask_l-mod, bit_mask_l, get_or-zip2, length-zip2}

abbrev differ : ℕ → ℕ → Bool
differ a b = not (nat_eq a b)

abbrev bit_of : Bool → ℕ
bit_of b = cond b 1 0

unset : (b : Bool) → bit_of b ≡ 0 → b ≡ false
unset true is = absurd (omega (arith, is))
unset false is = refl

-- a mask of 0 has no lane
no_lane : (ms : List Bool) (i : ℕ) → mask_l ms ≡ 0 → get_or ms i false ≡ false
no_lane ms i none =
    let bit : mask_l ms / 2 ^ i % 2 ≡ 0 = rw (none, zero-div) refl in
    unset (get_or ms i false) (sym (bit_mask_l ms i) ∙ bit)

-- where no lane of the first n differs, the n bytes are the same
pub lanes_equal : (n : ℕ) (xs ys : List ℕ) → n ≤ 64 → n ≤ length xs → n ≤ length ys
    → mask_l (map (top 7) (zip2 (λ a b. cond (differ a b) 255 0) (take n xs) (take n ys))) % 2 ^ 64 ≡ 0
    → (i : ℕ) → i < n → get_or xs i 0 ≡ get_or ys i 0
lanes_equal n xs ys few long_x long_y none i inside =
    let size_x : length (take n xs) ≡ n = length-take-le n xs long_x in
    let size_y : length (take n ys) ≡ n = length-take-le n ys long_y in
    let lanes = zip2 differ (take n xs) (take n ys) in
    let count : length lanes ≡ n = length-zip2 differ (take n xs) (take n ys) (size_x ∙ sym size_y) ∙ size_x in
    let empty : mask_l lanes ≡ 0 =
    sym (ap (λ ms. mask_l ms % 2 ^ 64) (tops_compared w8 differ (take n xs) (take n ys)) ∙ mask_l-mod lanes 64 (omega (arith, count))) ∙ none in
    let same : differ (get_or (take n xs) i 0) (get_or (take n ys) i 0) ≡ false =
    sym (get_or-zip2 differ (take n xs) (take n ys) i 0 0 false (omega (arith, size_x)) (omega (arith, size_y))) ∙ no_lane lanes i empty in
    sym (get_or-take n xs i 0 inside) ∙ eqb-true _ _ (not-false _ same) ∙ get_or-take n ys i 0 inside

-- bytes whose xor is 0 are the same
same_byte : (a b : ℕ) → bit_xor a b ≡ 0 → a ≡ b
same_byte a b none =
    sym (xor_zero_r a) ∙ ap (bit_xor a) (sym (xor_self b)) ∙ sym (xor_assoc a b b) ∙ ap (λ z. bit_xor z b) none

-- where nothing differs, with the next bytes, these are the same, and nothing differed before
pub none_differs : (a b : List ℕ) (different place : ℕ) → (different ≡ 0 → AreEqualBelow a b place)
    → bit_or different (bit_xor (get_or a place 0) (get_or b place 0)) ≡ 0 → AreEqualBelow a b (place + 1)
none_differs a b different place before none at inside = elim (cases_lt at place) [
  | inl less ↦ before none_before at less
  | inr past ↦ let here : at ≡ place = omega (arith, inside, past) in subst (λ p. get_or a p 0 ≡ get_or b p 0) (sym here) (same_byte _ _ none_here)
]
  where
    none_before : different ≡ 0
    none_before = omega (arith, le_or_l different (bit_xor (get_or a place 0) (get_or b place 0)), none)

    none_here : bit_xor (get_or a place 0) (get_or b place 0) ≡ 0
    none_here = omega (arith, le_or_r different (bit_xor (get_or a place 0) (get_or b place 0)), none)

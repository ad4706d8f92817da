-- The parts of an item one after the other: what is left behind the first, its values, its rules and its tests.
use Rattle.std.proofs.Common.{◌≡◌, ℕ, zero, suc, ◌+◌, ◌-◌, ◌<◌, ◌≤◌, Bool, true, false, cond, List, [], ◌∷◌, refl, ap, sym, ◌∙◌, arith, Some, None, filter, flat_map}
use Rattle.std.proofs.lemmas.Bool.{lt-ltb, le-ltb, ltb-true, ltb-false, le-leb, lt-leb}
use Rattle.std.specs.Prelude.{Option, nat_lt, nat_le, map, ◌||◌}
use Rattle.std.specs.List.{list_any}
use Rattle.verdict.specs.Rules.{TableRow, first_failing, or_found}
use Rattle.verdict.specs.declared.finding.Finding.{Finding}
use Rattle.verdict.proofs.Tables.{first_failing_joined}
use Rattle.fs_items.specs.Parts.{places_by, places}

-- each part has a byte at least
pub record MovesOn (end : ℕ → ℕ) : Type 0 where
  pub past : (place : ℕ) → place < end place

-- any number that bounds the bytes that are left bounds the number of parts
enough : (end : ℕ → ℕ) (size m n place : ℕ) → MovesOn end → size ≤ m + place → size ≤ n + place → places_by end size m place ≡ places_by end size n place
enough end size zero zero place moves h g = refl
enough end size zero (suc n) place moves h g =
    let over : nat_lt (end place) size ≡ false = le-ltb (end place) size (omega (arith, moves.past place)) in
    sym (ap (λ b. place ∷ cond b (places_by end size n (end place)) []) over)
enough end size (suc m) zero place moves h g =
    let over : nat_lt (end place) size ≡ false = le-ltb (end place) size (omega (arith, moves.past place)) in
    ap (λ b. place ∷ cond b (places_by end size m (end place)) []) over
enough end size (suc m) (suc n) place moves h g =
    ap (λ rest. place ∷ cond (nat_lt (end place) size) rest [])
    (enough end size m n (end place) moves (omega (arith, moves.past place)) (omega (arith, moves.past place)))

-- where bytes are left behind the first part, the others begin there
pub places_more : (end : ℕ → ℕ) (size place : ℕ) → MovesOn end → end place < size → places end size place ≡ place ∷ places end size (end place)
unfolding places
places_more end size place moves h =
    let one : size - place ≡ suc (size - place - 1) = omega (arith, moves.past place) in
    ap (λ n. places_by end size n place) one
    ∙ ap (λ b. place ∷ cond b (places_by end size (size - place - 1) (end place)) []) (lt-ltb (end place) size h)
    ∙ ap (λ rest. place ∷ rest) (enough end size (size - place - 1) (size - end place) (end place) moves (omega (arith, moves.past place)) (omega arith))

-- else it is the last
pub places_last : (end : ℕ → ℕ) (size place : ℕ) → MovesOn end → size ≤ end place → places end size place ≡ place ∷ []
unfolding places
places_last end size place moves h =
    enough end size (size - place) (suc (size - place)) place moves (omega arith) (omega arith)
    ∙ ap (λ b. place ∷ cond b (places_by end size (size - place) (end place)) []) (le-ltb (end place) size h)

first_by : (end : ℕ → ℕ) (size n place : ℕ) → (rest : List ℕ) × (places_by end size n place ≡ place ∷ rest)
first_by end size zero place = ([], refl)
first_by end size (suc n) place = (cond (nat_lt (end place) size) (places_by end size n (end place)) [], refl)

-- the first place is that from which they are counted
pub places_first : (end : ℕ → ℕ) (size place : ℕ) → (rest : List ℕ) × (places end size place ≡ place ∷ rest)
unfolding places
places_first end size place = first_by end size (size - place) place

module _ {A : Type 0} (end : ℕ → ℕ) (size : ℕ) (value : ℕ → A) where
  -- the values of the parts that stand whole
  abbrev pub whole_from : ℕ → List A
  whole_from place = map value (filter (λ p. nat_le (end p) size) (places end size place))

  -- a part that does not stand whole is none, and the last
  pub whole_none : (place : ℕ) → MovesOn end → size < end place → whole_from place ≡ []
  whole_none place moves h =
      ap (λ ps. map value (filter (λ p. nat_le (end p) size) ps)) (places_last end size place moves (omega arith))
      ∙ ap (λ b. map value (cond b (place ∷ []) [])) (lt-leb (end place) size h)

  -- a whole part stands before those behind it
  pub whole_more : (place : ℕ) → MovesOn end → end place ≤ size → whole_from place ≡ value place ∷ whole_from (end place)
  whole_more place moves h = by_rest (nat_lt (end place) size) refl
    where
      kept : nat_le (end place) size ≡ true
      kept = le-leb (end place) size h

      first : (rest : List ℕ) → map value (filter (λ p. nat_le (end p) size) (place ∷ rest)) ≡ value place ∷ map value (filter (λ p. nat_le (end p) size) rest)
      first rest = ap (λ b. map value (cond b (place ∷ filter (λ p. nat_le (end p) size) rest) (filter (λ p. nat_le (end p) size) rest))) kept

      by_rest : (b : Bool) → nat_lt (end place) size ≡ b → whole_from place ≡ value place ∷ whole_from (end place)
      by_rest true e =
          ap (λ ps. map value (filter (λ p. nat_le (end p) size) ps)) (places_more end size place moves (ltb-true (end place) size e))
          ∙ first (places end size (end place))
      by_rest false e =
          ap (λ ps. map value (filter (λ p. nat_le (end p) size) ps)) (places_last end size place moves (ltb-false (end place) size e))
          ∙ first []
          ∙ ap (λ vs. value place ∷ vs) (sym (whole_none (end place) moves (omega (arith, moves.past (end place), ltb-false (end place) size e))))

module _ (rows : ℕ → List TableRow) (end : ℕ → ℕ) (size : ℕ) where
  -- the first finding on all parts from one on
  abbrev pub found_from : ℕ → Option Finding
  found_from place = first_failing (flat_map rows (places end size place))

  over : (place : ℕ) (rest : List ℕ) → places end size place ≡ place ∷ rest → found_from place ≡ or_found (first_failing (rows place)) (first_failing (flat_map rows rest))
  over place rest e = ap (λ ps. first_failing (flat_map rows ps)) e ∙ first_failing_joined (rows place) (flat_map rows rest)

  -- a finding on the first part is that of all
  pub found_here : (place : ℕ) (finding : Finding) → Some finding ≡ first_failing (rows place) → Some finding ≡ found_from place
  found_here place finding f =
      let first = places_first end size place in
      ap (λ o. or_found o (first_failing (flat_map rows first.0))) f ∙ sym (over place first.0 first.1)

  -- where the first part has none, the others decide
  pub found_next : (place next : ℕ) → MovesOn end → None ≡ first_failing (rows place) → next ≡ end place → next < size → found_from next ≡ found_from place
  found_next place next moves f e h =
      ap found_from e
      ∙ ap (λ o. or_found o (found_from (end place))) f
      ∙ sym (over place (places end size (end place)) (places_more end size place moves (omega (arith, e))))

  -- and none is found where it is the last
  pub found_none : (place : ℕ) → MovesOn end → None ≡ first_failing (rows place) → size ≤ end place → None ≡ found_from place
  found_none place moves f h = ap (λ o. or_found o None) f ∙ sym (over place [] (places_last end size place moves h))

-- a test of the parts that no part from a place on passes
pub record FailsFrom (test : ℕ → Bool) (last : ℕ) : Type 0 where
  pub fails : (place : ℕ) → last ≤ place → test place ≡ false

module _ (test : ℕ → Bool) (end : ℕ → ℕ) (size : ℕ) where
  -- whether a part from one on passes
  abbrev pub any_from : ℕ → Bool
  any_from place = list_any test (places end size place)

  -- one does where the first does
  pub any_here : (place : ℕ) → test place ≡ true → true ≡ any_from place
  any_here place t =
      let first = places_first end size place in
      ap (λ b. b || list_any test first.0) (sym t) ∙ ap (list_any test) (sym first.1)

  none_by : (n place last : ℕ) → MovesOn end → FailsFrom test last → last ≤ place → list_any test (places_by end size n place) ≡ false
  none_by zero place last moves beyond h = ap (λ b. b || false) (beyond.fails place h)
  none_by (suc n) place last moves beyond h =
      ap (λ b. b || list_any test (cond (nat_lt (end place) size) (places_by end size n (end place)) [])) (beyond.fails place h)
      ∙ elim (nat_lt (end place) size) as (λ b. list_any test (cond b (places_by end size n (end place)) []) ≡ false)
      [ true ↦ none_by n (end place) last moves beyond (omega (arith, moves.past place)) | false ↦ refl ]

  -- none does beyond the last that may
  pub any_none : (place last : ℕ) → MovesOn end → FailsFrom test last → last ≤ place → any_from place ≡ false
  unfolding places
  any_none place last moves beyond h = none_by (size - place) place last moves beyond h

  -- where the first does not, the others decide
  pub any_next : (place last : ℕ) → MovesOn end → FailsFrom test last → last ≤ size → test place ≡ false → any_from (end place) ≡ any_from place
  any_next place last moves beyond h t = by_rest (nat_lt (end place) size) refl
    where
      by_rest : (b : Bool) → nat_lt (end place) size ≡ b → any_from (end place) ≡ any_from place
      by_rest true e =
          ap (λ b. b || any_from (end place)) (sym t)
          ∙ ap (list_any test) (sym (places_more end size place moves (ltb-true (end place) size e)))
      by_rest false e =
          any_none (end place) last moves beyond (omega (arith, ltb-false (end place) size e))
          ∙ ap (λ b. b || false) (sym t)
          ∙ ap (list_any test) (sym (places_last end size place moves (ltb-false (end place) size e)))

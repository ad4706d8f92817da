-- Lists that have the same elements, each once, and lists that are parted by a test.
use Rattle.std.proofs.Common.{◌≡◌, Bool, true, false, not, List, [], ◌∷◌, ◌++◌, ◌⊎◌, inl, inr, refl, ap, sym, subst, append_assoc, if◌then◌else◌}
use Rattle.std.proofs.lemmas.List.Sorted.{IsPermutation-append_comm, IsPermutation-append_left, IsPermutation-append_right}
use Rattle.std.proofs.lemmas.List.Sorted.{IsPermutation-cons, IsPermutation-refl, IsPermutation-trans}
use Rattle.std.specs.Prelude.{map}
use Rattle.std.specs.List.{filter, flat_map}
use Rattle.std.specs.List.Sorted.{IsPermutation}

-- the first of two parts and the second change places before a third
pub swap_first : {Z : Type 0} (p q r : List Z) → IsPermutation (p ++ (q ++ r)) (q ++ (p ++ r))
swap_first p q r =
    subst (λ left. IsPermutation left (q ++ (p ++ r))) (append_assoc p q r)
    (subst (λ right. IsPermutation ((p ++ q) ++ r) right) (append_assoc q p r)
    (IsPermutation-append_left r (p ++ q) (q ++ p) (IsPermutation-append_comm p q)))

module _ {X : Type 0} where
  -- one is among some
  abbrev pub Among : X → List X → Type 0
  Among z [] = ⊥
  Among z (x ∷ xs) = (x ≡ z) ⊎ Among z xs

  -- no two of these are the same
  abbrev pub Distinct : List X → Type 0
  Distinct [] = Unit {0}
  Distinct (x ∷ xs) = (Among x xs → ⊥) × Distinct xs

  -- a list where one stands in it
  record Parted (x : X) (xs : List X) : Type 0 where
    before : List X
    behind : List X
    is : xs ≡ before ++ x ∷ behind

  parted : (x : X) (xs : List X) → Among x xs → Parted x xs
  parted x [] has = elim has [ ]
  parted x (y ∷ xs) (inl here) = record { before = []; behind = xs; is = ap (λ z. z ∷ xs) here }
  parted x (y ∷ xs) (inr later) =
      let p = parted x xs later in
      record { before = y ∷ p.before; behind = p.behind; is = ap (λ zs. y ∷ zs) p.is }

  -- without that one
  among_less : (z x : X) (a b : List X) → Among z (a ++ x ∷ b) → (x ≡ z) ⊎ Among z (a ++ b)
  among_less z x [] b has = has
  among_less z x (y ∷ a) b (inl here) = inr (inl here)
  among_less z x (y ∷ a) b (inr later) = by (among_less z x a b later)
    where
      by : (x ≡ z) ⊎ Among z (a ++ b) → (x ≡ z) ⊎ ((y ≡ z) ⊎ Among z (a ++ b))
      by (inl same) = inl same
      by (inr there) = inr (inr there)

  among_more : (z x : X) (a b : List X) → Among z (a ++ b) → Among z (a ++ x ∷ b)
  among_more z x [] b has = inr has
  among_more z x (y ∷ a) b (inl here) = inl here
  among_more z x (y ∷ a) b (inr later) = inr (among_more z x a b later)

  among_there : (x : X) (a b : List X) → Among x (a ++ x ∷ b)
  among_there x [] b = inl refl
  among_there x (y ∷ a) b = inr (among_there x a b)

  distinct_less : (x : X) (a b : List X) → Distinct (a ++ x ∷ b) → Distinct (a ++ b)
  distinct_less x [] b d = d.1
  distinct_less x (y ∷ a) b d = ((λ has. d.0 (among_more y x a b has)), distinct_less x a b d.1)

  distinct_out : (x : X) (a b : List X) → Distinct (a ++ x ∷ b) → Among x (a ++ b) → ⊥
  distinct_out x [] b d has = d.0 has
  distinct_out x (y ∷ a) b d (inl here) = d.0 (subst (λ z. Among z (a ++ x ∷ b)) (sym here) (among_there x a b))
  distinct_out x (y ∷ a) b d (inr later) = distinct_out x a b d.1 later

module _ {X Z : Type 0} (give : X → List Z) where
  flat_parted : (x : X) (a b : List X) → IsPermutation (give x ++ flat_map give (a ++ b)) (flat_map give (a ++ x ∷ b))
  flat_parted x [] b = IsPermutation-refl (give x ++ flat_map give b)
  flat_parted x (y ∷ a) b =
      IsPermutation-trans (give x ++ (give y ++ flat_map give (a ++ b))) (give y ++ (give x ++ flat_map give (a ++ b)))
      (give y ++ flat_map give (a ++ x ∷ b)) (swap_first (give x) (give y) (flat_map give (a ++ b)))
      (IsPermutation-append_right (give y) (give x ++ flat_map give (a ++ b)) (flat_map give (a ++ x ∷ b)) (flat_parted x a b))

  -- lists that have the same elements, each once, give the same in another order
  pub same_elements : (xs ys : List X) → Distinct xs → Distinct ys → ((z : X) → Among z xs → Among z ys) → ((z : X) → Among z ys → Among z xs)
      → IsPermutation (flat_map give xs) (flat_map give ys)
  same_elements [] [] d e into back = IsPermutation-refl []
  same_elements [] (y ∷ ys) d e into back = elim (back y (inl refl)) [ ]
  same_elements (x ∷ xs) ys d e into back =
      let p : Parted x ys = parted x ys (into x (inl refl)) in
      let left = p.before ++ p.behind in
      let whole = p.before ++ x ∷ p.behind in
      let apart : Distinct whole = subst Distinct p.is e in
      let rest =
      same_elements xs left d.1 (distinct_less x p.before p.behind apart)
      (λ z has. first left z has (among_less z x p.before p.behind (subst (Among z) p.is (into z (inr has)))))
      (λ z has. later left (distinct_out x p.before p.behind apart) z has
      (back z (subst (Among z) (sym p.is) (among_more z x p.before p.behind has)))) in
      subst (λ zs. IsPermutation (give x ++ flat_map give xs) (flat_map give zs)) (sym p.is)
      (IsPermutation-trans (give x ++ flat_map give xs) (give x ++ flat_map give left) (flat_map give whole)
      (IsPermutation-append_right (give x) (flat_map give xs) (flat_map give left) rest) (flat_parted x p.before p.behind))
    where
      first : (left : List X) (z : X) → Among z xs → (x ≡ z) ⊎ Among z left → Among z left
      first left z has (inl same) = elim (d.0 (subst (λ w. Among w xs) (sym same) has)) [ ]
      first left z has (inr there) = there

      later : (left : List X) → (Among x left → ⊥) → (z : X) → Among z left → (x ≡ z) ⊎ Among z xs → Among z xs
      later left out z has (inl same) = elim (out (subst (λ w. Among w left) (sym same) has)) [ ]
      later left out z has (inr there) = there

  -- what all give is what those that fail a test give and those that pass it
  pub flat_tested : (test : X → Bool) (xs : List X)
      → IsPermutation (flat_map give xs) (flat_map give (filter (λ x. not (test x)) xs) ++ flat_map give (filter test xs))
  flat_tested test [] = IsPermutation-refl []
  flat_tested test (x ∷ xs) = by (test x) (flat_tested test xs)
    where
      fail : List X
      fail = filter (λ y. not (test y)) xs

      pass : List X
      pass = filter test xs

      by : (b : Bool) → IsPermutation (flat_map give xs) (flat_map give fail ++ flat_map give pass)
          → IsPermutation (give x ++ flat_map give xs)
          (flat_map give (if not b then x ∷ fail else fail) ++ flat_map give (if b then x ∷ pass else pass))
      by true rest =
          IsPermutation-trans (give x ++ flat_map give xs) (give x ++ (flat_map give fail ++ flat_map give pass))
          (flat_map give fail ++ (give x ++ flat_map give pass))
          (IsPermutation-append_right (give x) (flat_map give xs) (flat_map give fail ++ flat_map give pass) rest)
          (swap_first (give x) (flat_map give fail) (flat_map give pass))
      by false rest =
          subst (λ right. IsPermutation (give x ++ flat_map give xs) right) (sym (append_assoc (give x) (flat_map give fail) (flat_map give pass)))
          (IsPermutation-append_right (give x) (flat_map give xs) (flat_map give fail ++ flat_map give pass) rest)

-- where each gives one and then more, all give these and then what is more
pub flat_heads : {X Z : Type 0} (one : X → Z) (more : X → List Z) (xs : List X)
    → IsPermutation (flat_map (λ x. one x ∷ more x) xs) (map one xs ++ flat_map more xs)
flat_heads one more [] = IsPermutation-refl []
flat_heads one more (x ∷ xs) =
    IsPermutation-cons (one x) (more x ++ flat_map (λ y. one y ∷ more y) xs) (map one xs ++ (more x ++ flat_map more xs))
    (IsPermutation-trans (more x ++ flat_map (λ y. one y ∷ more y) xs) (more x ++ (map one xs ++ flat_map more xs))
    (map one xs ++ (more x ++ flat_map more xs))
    (IsPermutation-append_right (more x) (flat_map (λ y. one y ∷ more y) xs) (map one xs ++ flat_map more xs) (flat_heads one more xs))
    (swap_first (more x) (map one xs) (flat_map more xs)))

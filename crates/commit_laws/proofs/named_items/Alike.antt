-- Lists of items in order, of which each item of one has its like in the other.
use Rattle.std.proofs.Common.{◌≡◌, zero, suc, get_or, true, ◌⊎◌, inl, inr, List, [], ◌∷◌, map, refl, sym, ◌∙◌, subst, arith}
use Rattle.std.specs.List.{AllPairs, Contains}
use Rattle.std.proofs.lemmas.List.Elements.{Contains-append_cases, Contains-get_or, Contains-push_cases}
use Rattle.records.specs.declared.rec.ItemAt.{ItemAt}
use Rattle.change_records.specs.Changes.{Ascend, HaveOneKey, is_before}
use Rattle.change_records.proofs.Merge.{contains_first, contains_more, contains_none, only_one}
use Rattle.change_records.proofs.Order.{before_apart, before_irrefl, before_trans, like_right, one_key_back}

-- ---- what is among a list

pub contains_cases : {X : Type 0} (x : X) (xs : List X) (y : X) → Contains (x ∷ xs) y → (x ≡ y) ⊎ Contains xs y
contains_cases x xs y is = elim (Contains-append_cases (x ∷ []) xs y is) [ inl first ↦ inl (only_one x y first) | inr later ↦ inr later ]

-- ---- what holds of any two of a list, in their order

module _ {X : Type 0} (R : X → X → Type 0) where
  pub pairs_head : (x : X) (xs : List X) → AllPairs R (x ∷ xs) → (y : X) → Contains xs y → R x y
  pairs_head x xs all y is = subst (R x) is.2 (all 0 (suc is.0) y (omega arith) (omega (arith, is.1)))

  pub pairs_tail : (x : X) (xs : List X) → AllPairs R (x ∷ xs) → AllPairs R xs
  pairs_tail x xs all = λ i j d less within. all (suc i) (suc j) d (omega (arith, less)) (omega (arith, within))

  pub pairs_cons : (x : X) (xs : List X) → ((y : X) → Contains xs y → R x y) → AllPairs R xs → AllPairs R (x ∷ xs)
  pairs_cons x xs head tail zero zero d less within = absurd (omega (arith, less))
  pairs_cons x xs head tail zero (suc j) d less within = head (get_or xs j d) (Contains-get_or xs j d (omega (arith, within)))
  pairs_cons x xs head tail (suc i) zero d less within = absurd (omega (arith, less))
  pairs_cons x xs head tail (suc i) (suc j) d less within = tail i j d (omega (arith, less)) (omega (arith, within))

-- ---- items in order

pub ascend_head : (x : ItemAt) (xs : List ItemAt) → Ascend (x ∷ xs) → (y : ItemAt) → Contains xs y → is_before x y ≡ true
ascend_head = pairs_head (λ (one later : ItemAt). is_before one later ≡ true)

pub ascend_tail : (x : ItemAt) (xs : List ItemAt) → Ascend (x ∷ xs) → Ascend xs
ascend_tail = pairs_tail (λ (one later : ItemAt). is_before one later ≡ true)

-- two of a list in order that have one key are one
pub one_item : (xs : List ItemAt) → Ascend xs → (x y : ItemAt) → Contains xs x → Contains xs y → HaveOneKey x y → x ≡ y
one_item [] up x y has also same = absurd (contains_none x has)
one_item (z ∷ zs) up x y has also same =
    by (contains_cases z zs x has) (contains_cases z zs y also) (λ a b. one_item zs (ascend_tail z zs up) x y a b same)
  where
    by : (z ≡ x) ⊎ Contains zs x → (z ≡ y) ⊎ Contains zs y → (Contains zs x → Contains zs y → x ≡ y) → x ≡ y
    by (inl a) (inl b) later = sym a ∙ b
    by (inl a) (inr b) later = absurd (before_apart x y (subst (λ w. is_before w y ≡ true) a (ascend_head z zs up y b)) same)
    by (inr a) (inl b) later = absurd (before_apart y x (subst (λ w. is_before w x ≡ true) b (ascend_head z zs up x a)) (one_key_back x y same))
    by (inr a) (inr b) later = later a b

-- ---- lists alike

-- each of a list has its like in another
abbrev pub HaveLikes : (ItemAt → ItemAt → Type 0) → List ItemAt → List ItemAt → Type 0
HaveLikes Like xs ys = (x : ItemAt) → Contains xs x → (y : ItemAt) × Contains ys y × Like x y

module _ (Like : ItemAt → ItemAt → Type 0) (one_key : (x y : ItemAt) → Like x y → HaveOneKey x y) where
  -- the first items are alike
  heads : (x y : ItemAt) (xs ys : List ItemAt) → Ascend (x ∷ xs) → Ascend (y ∷ ys) → HaveLikes Like (x ∷ xs) (y ∷ ys)
      → HaveLikes (λ b a. Like a b) (y ∷ ys) (x ∷ xs) → Like x y
  heads x y xs ys up also to back = by (to x (contains_first x xs)) (back y (contains_first y ys))
    where
      -- what is like the first of the others, and behind the first of its own list
      circle : (b a : ItemAt) → Like x b → Like a y → is_before y b ≡ true → is_before x a ≡ true → ⊥
      circle b a to_b from_a y_b x_a =
          let y_x = like_right y b x (one_key_back x b (one_key x b to_b)) y_b in
          let x_y = like_right x a y (one_key a y from_a) x_a in
          before_irrefl x (before_trans x y x x_y y_x)

      by : (b : ItemAt) × Contains (y ∷ ys) b × Like x b → (a : ItemAt) × Contains (x ∷ xs) a × Like a y → Like x y
      by b a = elim (contains_cases y ys b.0 b.1) [
        | inl here ↦ subst (Like x) (sym here) b.2
        | inr later ↦ elim (contains_cases x xs a.0 a.1) [
          | inl here ↦ subst (λ z. Like z y) (sym here) a.2
          | inr more ↦ absurd (circle b.0 a.0 b.2 a.2 (ascend_head y ys also b.0 later) (ascend_head x xs up a.0 more))
        ]
      ]

  -- the others of one list have their likes among the others
  tails : (x y : ItemAt) (xs ys : List ItemAt) → Ascend (x ∷ xs) → Like x y → HaveLikes Like (x ∷ xs) (y ∷ ys) → HaveLikes Like xs ys
  tails x y xs ys up first to z has = by (to z (contains_more x xs z has))
    where
      by : (b : ItemAt) × Contains (y ∷ ys) b × Like z b → (b : ItemAt) × Contains ys b × Like z b
      by b = elim (contains_cases y ys b.0 b.1) [
        | inl here ↦
            (let z_y : HaveOneKey z y = one_key z y (subst (Like z) (sym here) b.2) in
            absurd (before_apart x y (like_right x z y z_y (ascend_head x xs up z has)) (one_key x y first)))
        | inr later ↦ (b.0, later, b.2)
      ]

  pub tails_back : (x y : ItemAt) (xs ys : List ItemAt) → Ascend (y ∷ ys) → Like x y → HaveLikes (λ b a. Like a b) (y ∷ ys) (x ∷ xs)
      → HaveLikes (λ b a. Like a b) ys xs
  tails_back x y xs ys up first back z has = by (back z (contains_more y ys z has))
    where
      by : (a : ItemAt) × Contains (x ∷ xs) a × Like a z → (a : ItemAt) × Contains xs a × Like a z
      by a = elim (contains_cases x xs a.0 a.1) [
        | inl here ↦
            (let x_z : HaveOneKey x z = one_key x z (subst (λ w. Like w z) (sym here) a.2) in
            absurd (before_apart y x (like_right y z x (one_key_back x z x_z) (ascend_head y ys up z has)) (one_key_back x y (one_key x y first))))
        | inr later ↦ (a.0, later, a.2)
      ]

  -- what is the same of items that are alike is the same of both lists
  pub alike : {Y : Type 0} (f : ItemAt → Y) → ((x y : ItemAt) → Like x y → f x ≡ f y) → (xs ys : List ItemAt) → Ascend xs → Ascend ys
      → HaveLikes Like xs ys → HaveLikes (λ b a. Like a b) ys xs → map f xs ≡ map f ys
  alike f same [] [] up also to back = refl
  alike f same [] (y ∷ ys) up also to back = absurd (let a = back y (contains_first y ys) in contains_none a.0 a.1)
  alike f same (x ∷ xs) [] up also to back = absurd (let b = to x (contains_first x xs) in contains_none b.0 b.1)
  alike f same (x ∷ xs) (y ∷ ys) up also to back =
      let first : Like x y = heads x y xs ys up also to back in
      let rest = alike f same xs ys (ascend_tail x xs up) (ascend_tail y ys also) (tails x y xs ys up first to) (tails_back x y xs ys also first back) in
      let here = same x y first in
      λ i. here i ∷ rest i

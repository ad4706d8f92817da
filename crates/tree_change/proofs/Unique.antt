-- A list that is sorted is the one that is in order.
use Rattle.std.proofs.Common.{◌≡◌, ℕ, ◌<◌, Bool, true, false, ◌||◌, ◌&&◌, List, [], ◌∷◌, ◌⊎◌, inl, inr, length, refl, ap, sym, suc}
use Rattle.std.proofs.Common.{subst, ◌∙◌, arith, slice_index_or}
use Rattle.std.proofs.lemmas.List.Elements.{All-from_recursion, recursion_from_All}
use Rattle.std.proofs.lemmas.List.Sorted.{All-permutation, IsPermutation-sym, IsPermutation-trans}
use Rattle.std.specs.List.{AllByRecursion, AllPairs}
use Rattle.std.specs.List.Sorted.{IsPermutation}
use Rattle.tree_laws.specs.MergedLaw.{IsInOrder}
use Rattle.tree_change.specs.Merging.{IsSortedOf}
use Rattle.tree_change.proofs.Unordered.{in_order, permuted_pairs}

-- one is among some
abbrev Has : {X : Type 0} → X → List X → Type 0
Has z [] = ⊥
Has z (x ∷ xs) = (x ≡ z) ⊎ Has z xs

more_has : {X : Type 0} (x : X) (xs zs : List X) → AllByRecursion (λ z. Has z xs) zs → AllByRecursion (λ z. Has z (x ∷ xs)) zs
more_has x xs [] all = tt
more_has x xs (z ∷ zs) all = (inr all.0, more_has x xs zs all.1)

has_itself : {X : Type 0} (xs : List X) → AllByRecursion (λ z. Has z xs) xs
has_itself [] = tt
has_itself (x ∷ xs) = (inl refl, more_has x xs xs (has_itself xs))

-- a list has what another has of which it is a permutation
has_permuted : {X : Type 0} (xs ys : List X) → IsPermutation xs ys → AllByRecursion (λ z. Has z xs) ys
has_permuted xs ys perm =
    recursion_from_All (λ z. Has z xs) ys
    (All-permutation (λ z. Has z xs) xs ys perm (All-from_recursion (λ z. Has z xs) xs (has_itself xs)))

module _ {X : Type 0} (before : X → X → Bool) where
  -- one comes before another, which does not come before it
  abbrev Less : X → X → Type 0
  Less a b = (before a b ≡ true) × (before b a ≡ false)

  abbrev Strict : List X → Type 0
  Strict [] = Unit {0}
  Strict (x ∷ xs) = AllByRecursion (Less x) xs × Strict xs

  least_of : (x : X) (xs : List X) → ((k : ℕ) → k < length xs → Less x (slice_index_or xs k x)) → AllByRecursion (Less x) xs
  least_of x [] h = tt
  least_of x (y ∷ ys) h = (h 0 (omega arith), least_of x ys (λ k p. h (suc k) (omega arith)))

  strict_of : (xs : List X) → AllPairs Less xs → Strict xs
  strict_of [] h = tt
  strict_of (x ∷ xs) h =
      (least_of x xs (λ k p. h 0 (suc k) x (omega arith) (omega arith)), strict_of xs (λ i j d p q. h (suc i) (suc j) d (omega arith) (omega arith)))

  never : (w z : X) → w ≡ z → Less w z → ⊥
  never w z same less = let a = less.0 in let b = less.1 in absurd (cc)

  never_both : (w z : X) → Less w z → Less z w → ⊥
  never_both w z less more = let a = less.0 in let b = more.1 in absurd (cc)

  less_has : (w z : X) (zs : List X) → AllByRecursion (Less w) zs → Has z zs → Less w z
  less_has w z [] all has = elim has [ ]
  less_has w z (x ∷ zs) all (inl here) = subst (Less w) here all.0
  less_has w z (x ∷ zs) all (inr later) = less_has w z zs all.1 later

  -- what comes behind one is among the others
  left_has : (w : X) (zs ys : List X) → AllByRecursion (Less w) zs → AllByRecursion (λ z. Has z (w ∷ ys)) zs → AllByRecursion (λ z. Has z ys) zs
  left_has w [] ys all into = tt
  left_has w (z ∷ zs) ys all into = (by into.0, left_has w zs ys all.1 into.1)
    where
      by : (w ≡ z) ⊎ Has z ys → Has z ys
      by (inl here) = elim (never w z here all.0) [ ]
      by (inr later) = later

  -- lists in order that have the same are the same
  same_lists : (xs ys : List X) → Strict xs → Strict ys → AllByRecursion (λ z. Has z ys) xs → AllByRecursion (λ z. Has z xs) ys → xs ≡ ys
  same_lists [] [] a b into back = refl
  same_lists [] (y ∷ ys) a b into back = elim back.0 [ ]
  same_lists (x ∷ xs) [] a b into back = elim into.0 [ ]
  same_lists (x ∷ xs) (y ∷ ys) a b into back =
      let same : x ≡ y = by into.0 back.0 in
      ap (λ z. z ∷ xs) same ∙ ap (λ zs. y ∷ zs)
      (same_lists xs ys a.1 b.1 (left_has y xs ys (subst (λ w. AllByRecursion (Less w) xs) same a.0) into.1)
      (left_has x ys xs (subst (λ w. AllByRecursion (Less w) ys) (sym same) b.0) back.1))
    where
      by : (y ≡ x) ⊎ Has x ys → (x ≡ y) ⊎ Has y xs → x ≡ y
      by (inl here) other = sym here
      by (inr has) (inl here) = here
      by (inr has) (inr there) = elim (never_both y x (less_has y x ys b.0 has) (less_has x y xs a.0 there)) [ ]

-- A list that has what another has which is in order, and in which none comes before an earlier one, is that one.
pub only_list : {A : Type 0} (before : A → A → Bool) (whole list other : List A) → IsSortedOf before whole list → IsInOrder before whole other
    → list ≡ other
only_list {A} before whole list other sort order =
    let perm : IsPermutation other list =
    IsPermutation-trans other whole list (IsPermutation-sym whole other order.all) sort.all in
    let up : IsInOrder before other list =
    in_order before other whole list (IsPermutation-sym whole other order.all) sort
    (λ i j d less within. either (before (slice_index_or other i d) (slice_index_or other j d))
    (before (slice_index_or other j d) (slice_index_or other i d)) (order.ascends i j d less within)) in
    let one_way : AllPairs OneWay other =
    permuted_pairs OneWay turns list other (IsPermutation-sym other list perm)
    (λ i j d less within. not_both (before (slice_index_or list i d) (slice_index_or list j d))
    (before (slice_index_or list j d) (slice_index_or list i d)) (sort.ascends i j d less within)) in
    same_lists before list other
    (strict_of before list (λ i j d less within. (up.ascends i j d less within, sort.ascends i j d less within)))
    (strict_of before other (λ i j d less within. (
      order.ascends i j d less within,
      other_not (before (slice_index_or other i d) (slice_index_or other j d)) (before (slice_index_or other j d) (slice_index_or other i d))
          (order.ascends i j d less within) (one_way i j d less within),
    )))
    (has_permuted other list perm) (has_permuted list other (IsPermutation-sym other list perm))
  where
    OneWay : A → A → Type 0
    OneWay a b = (before a b && before b a) ≡ false

    either : (a b : Bool) → a ≡ true → (a || b) ≡ true
    either a b is = rw is refl

    not_both : (a b : Bool) → b ≡ false → (a && b) ≡ false
    not_both true b is = is
    not_both false b is = refl

    other_not : (a b : Bool) → a ≡ true → (a && b) ≡ false → b ≡ false
    other_not true b is none = none
    other_not false b is none = absurd (cc)

    turn : (a b : Bool) → (a && b) ≡ false → (b && a) ≡ false
    turn true b is = rw is refl
    turn false true is = refl
    turn false false is = refl

    turns : (a b : A) → OneWay a b → OneWay b a
    turns a b is = turn (before a b) (before b a) is

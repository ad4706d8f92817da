-- Lists by the places of what they have.
use Rattle.std.proofs.Common.{◌≡◌, ℕ, zero, suc, ◌<◌, Bool, true, false, not, ◌&&◌, ◌||◌, List, [], ◌∷◌, ◌++◌, length, refl, ap, sym, subst, ◌∙◌, arith, append_assoc, get_or, set, if◌then◌else◌}
use Rattle.std.proofs.lemmas.List.Elements.{All-from_recursion}
use Rattle.std.proofs.lemmas.List.Kept.{AllPairs-cons}
use Rattle.std.proofs.lemmas.List.Sorted.{IsPermutation-append_comm, IsPermutation-append_left, IsPermutation-append_right, IsPermutation-cons, IsPermutation-filter_both, IsPermutation-keeps, IsPermutation-refl, IsPermutation-trans}
use Rattle.std.specs.Prelude.{Option, Some, None}
use Rattle.std.specs.List.{AllByRecursion, AllPairs, cons_option, filter, filter_map, flat_map, list_any, swap}
use Rattle.std.specs.List.Sorted.{IsPermutation}

-- ---- what passes a test

-- one of a list alone, as far as it passes a test
abbrev pub if_passes : {X : Type 0} → (X → Bool) → X → List X
if_passes p x = if p x then x ∷ [] else []

-- what passes a test is what each one gives of itself
filter_flat : {X : Type 0} (p : X → Bool) (xs : List X) → filter p xs ≡ flat_map (if_passes p) xs
filter_flat p [] = refl
filter_flat {X} p (x ∷ xs) = by (p x) (filter_flat p xs)
  where
    by : (b : Bool) → filter p xs ≡ flat_map (if_passes p) xs
        → (if b then x ∷ filter p xs else filter p xs) ≡ (if b then x ∷ [] else []) ++ flat_map (if_passes p) xs
    by true rest = ap (λ ys. x ∷ ys) rest
    by false rest = rest

module _ {X : Type 0} (f : X → List X) where
  -- what each of a list gives, where two of it are exchanged
  abbrev Same : List X → List X → Type 0
  Same xs ys = IsPermutation (flat_map f xs) (flat_map f ys)

  -- an exchange of the first two
  turned : (x y : X) (xs : List X) → Same (x ∷ y ∷ xs) (y ∷ x ∷ xs)
  turned x y xs =
      subst (λ l. IsPermutation l (f y ++ (f x ++ flat_map f xs))) (append_assoc (f x) (f y) (flat_map f xs))
      (subst (IsPermutation ((f x ++ f y) ++ flat_map f xs)) (append_assoc (f y) (f x) (flat_map f xs))
      (IsPermutation-append_left (flat_map f xs) (f x ++ f y) (f y ++ f x) (IsPermutation-append_comm (f x) (f y))))

  -- one exchange after another
  chain : (xs ys zs : List X) → Same xs ys → Same ys zs → Same xs zs
  chain xs ys zs a b = IsPermutation-trans (flat_map f xs) (flat_map f ys) (flat_map f zs) a b

  -- an exchange behind the first
  skip : (x : X) (xs ys : List X) → Same xs ys → Same (x ∷ xs) (x ∷ ys)
  skip x xs ys h = IsPermutation-append_right (f x) (flat_map f xs) (flat_map f ys) h

  -- an exchange with the first
  to_head : (l : List X) (j : ℕ) (x d : X) → j < length l → Same (x ∷ l) (get_or l j d ∷ set l j x)
  to_head [] j x d h = absurd (omega arith)
  to_head (y ∷ l) zero x d h = turned x y l
  to_head (y ∷ l) (suc j) x d h =
      chain (x ∷ y ∷ l) (y ∷ x ∷ l) (get_or l j d ∷ y ∷ set l j x) (turned x y l)
      (chain (y ∷ x ∷ l) (y ∷ get_or l j d ∷ set l j x) (get_or l j d ∷ y ∷ set l j x)
      (skip y (x ∷ l) (get_or l j d ∷ set l j x) (to_head l j x d (omega arith))) (turned y (get_or l j d) (set l j x)))

  -- any exchange
  exchanged : (l : List X) (i j : ℕ) (d : X) → i < length l → j < length l → Same l (set (set l i (get_or l j d)) j (get_or l i d))
  exchanged [] i j d p q = absurd (omega arith)
  exchanged (x ∷ l) zero zero d p q = IsPermutation-refl (flat_map f (x ∷ l))
  exchanged (x ∷ l) zero (suc j) d p q = to_head l j x d (omega arith)
  exchanged (x ∷ l) (suc i) zero d p q = to_head l i x d (omega arith)
  exchanged (x ∷ l) (suc i) (suc j) d p q =
      skip x l (set (set l i (get_or l j d)) j (get_or l i d)) (exchanged l i j d (omega arith) (omega arith))

  -- the same, as a permutation has it
  swapped : (l : List X) (i j : ℕ) → i < length l → j < length l → Same l (swap l i j)
  swapped [] i j p q = IsPermutation-refl []
  swapped (x ∷ l) i j p q = exchanged (x ∷ l) i j x p q

  -- each permutation
  flat_permuted : (xs ys : List X) → IsPermutation xs ys → Same xs ys
  flat_permuted xs ys perm =
      IsPermutation-keeps xs (Same xs) (IsPermutation-refl (flat_map f xs)) (λ l i j p q h. chain xs l (swap l i j) h (swapped l i j p q)) ys perm

-- what passes a test is the same of a list in another order
pub filter_permuted : {X : Type 0} (p : X → Bool) (xs ys : List X) → IsPermutation xs ys → IsPermutation (filter p xs) (filter p ys)
filter_permuted p xs ys perm =
    subst (λ l. IsPermutation l (filter p ys)) (sym (filter_flat p xs))
    (subst (IsPermutation (flat_map (if_passes p) xs)) (sym (filter_flat p ys)) (flat_permuted (if_passes p) xs ys perm))

-- what passes one test and then another
pub filter_twice : {X : Type 0} (p q r : X → Bool) → ((x : X) → (q x && p x) ≡ r x) → (xs : List X) → filter p (filter q xs) ≡ filter r xs
filter_twice p q r is [] = refl
filter_twice {X} p q r is (x ∷ xs) = by (q x) (p x) (r x) refl refl refl (is x) (filter_twice p q r is xs)
  where
    by : (a b c : Bool) → q x ≡ a → p x ≡ b → r x ≡ c → (a && b) ≡ c → filter p (filter q xs) ≡ filter r xs
        → filter p (filter q (x ∷ xs)) ≡ filter r (x ∷ xs)
    by true true true a b c same rest = rw (a, b, c) (ap (λ ys. x ∷ ys) rest)
    by true true false a b c same rest = absurd (cc)
    by true false true a b c same rest = absurd (cc)
    by true false false a b c same rest = rw (a, b, c) rest
    by false true true a b c same rest = absurd (cc)
    by false false true a b c same rest = absurd (cc)
    by false true false a b c same rest = rw (a, c) rest
    by false false false a b c same rest = rw (a, c) rest

-- What does not pass a test, where that is another test but for what is marked: what does not pass the other, and what is marked of the rest.
pub split_marked : {X : Type 0} (s u m : X → Bool) → ((x : X) → s x ≡ (u x && not (m x))) → (xs : List X)
    → IsPermutation (filter (λ x. not (s x)) xs) (filter (λ x. not (u x)) xs ++ filter (λ x. u x && m x) xs)
split_marked {X} s u m is xs =
    let rest = filter (λ x. not (s x)) xs in
    subst (λ ys. IsPermutation rest (ys ++ filter (λ x. u x && m x) xs))
    (filter_twice (λ x. not (u x)) (λ x. not (s x)) (λ x. not (u x)) (λ x. neither (s x) (u x) (m x) (is x)) xs)
    (subst (λ ys. IsPermutation rest (filter (λ x. not (u x)) rest ++ ys))
    (filter_twice u (λ x. not (s x)) (λ x. u x && m x) (λ x. marked (s x) (u x) (m x) (is x)) xs)
    (IsPermutation-filter_both (λ x. not (u x)) u (λ x. not_not (u x)) rest))
  where
    not_not : (b : Bool) → b ≡ not (not b)
    not_not true = refl
    not_not false = refl

    neither : (s u m : Bool) → s ≡ (u && not m) → (not s && not u) ≡ not u
    neither s true m is = by s
      where
        by : (s : Bool) → (not s && false) ≡ false
        by true = refl
        by false = refl
    neither true false m is = absurd (cc)
    neither false false m is = refl

    marked : (s u m : Bool) → s ≡ (u && not m) → (not s && u) ≡ (u && m)
    marked true true true is = absurd (cc)
    marked true true false is = refl
    marked false true true is = refl
    marked false true false is = absurd (cc)
    marked true false m is = refl
    marked false false m is = refl

-- what holds of all that passes a test
pub each_passing : {X : Type 0} (p : X → Bool) (P : X → Type 0) → ((x : X) → p x ≡ true → P x) → (xs : List X) → AllByRecursion P (filter p xs)
each_passing p P h [] = tt
each_passing {X} p P h (x ∷ xs) = by (p x) refl (each_passing p P h xs)
  where
    by : (b : Bool) → p x ≡ b → AllByRecursion P (filter p xs) → AllByRecursion P (if b then x ∷ filter p xs else filter p xs)
    by true is rest = (h x is, rest)
    by false is rest = rest

-- ---- lists by places

-- what is there, as a list
abbrev pub option_list : {X : Type 0} → Option X → List X
option_list None = []
option_list (Some x) = x ∷ []

module _ {X K : Type 0} (at : K → X → Bool) where
  -- nothing is at two of these places
  abbrev pub AtOnce : List K → Type 0
  AtOnce [] = Unit {0}
  AtOnce (k ∷ ks) = AllByRecursion (λ m. (x : X) → at k x ≡ true → at m x ≡ false) ks × AtOnce ks

  -- those at each of some places
  abbrev pub at_each : List K → List X → List X
  at_each ks xs = flat_map (λ k. filter (at k) xs) ks

  -- whether one is at one of these places
  abbrev pub at_some : List K → X → Bool
  at_some ks x = list_any (λ k. at k x) ks

  -- those at a place, where those at another are left out
  left_at : (k m : K) → ((x : X) → at k x ≡ true → at m x ≡ false) → (xs : List X) → filter (at m) (filter (λ x. not (at k x)) xs) ≡ filter (at m) xs
  left_at k m other xs = filter_twice (at m) (λ x. not (at k x)) (at m) (λ x. by (at k x) (at m x) (other x)) xs
    where
      by : (a b : Bool) → (a ≡ true → b ≡ false) → (not a && b) ≡ b
      by true true h = let never : true ≡ false = h refl in absurd (cc)
      by true false h = refl
      by false b h = refl

  -- the same of several places
  left_at_each : (k : K) (ks : List K) (xs : List X) → AllByRecursion (λ m. (x : X) → at k x ≡ true → at m x ≡ false) ks
      → at_each ks (filter (λ x. not (at k x)) xs) ≡ at_each ks xs
  left_at_each k [] xs all = refl
  left_at_each k (m ∷ ks) xs all =
      ap (λ ys. ys ++ at_each ks (filter (λ x. not (at k x)) xs)) (left_at k m all.0 xs)
      ∙ ap (λ ys. filter (at m) xs ++ ys) (left_at_each k ks xs all.1)

  -- what is not at the first place is at one of the others
  left_somewhere : (k : K) (ks : List K) (xs : List X) → AllByRecursion (λ x. at_some (k ∷ ks) x ≡ true) xs
      → AllByRecursion (λ x. at_some ks x ≡ true) (filter (λ x. not (at k x)) xs)
  left_somewhere k ks [] all = tt
  left_somewhere k ks (x ∷ xs) all = by (at k x) all.0 (left_somewhere k ks xs all.1)
    where
      by : (b : Bool) → (b || at_some ks x) ≡ true → AllByRecursion (λ x. at_some ks x ≡ true) (filter (λ x. not (at k x)) xs)
          → AllByRecursion (λ x. at_some ks x ≡ true) (if not b then x ∷ filter (λ x. not (at k x)) xs else filter (λ x. not (at k x)) xs)
      by true some rest = rest
      by false some rest = (some, rest)

  -- nothing is at no place
  nowhere : (xs : List X) → AllByRecursion (λ x. at_some [] x ≡ true) xs → xs ≡ []
  nowhere [] all = refl
  nowhere (x ∷ xs) all = let h = all.0 in absurd (cc)

  -- A list is made of those at each place, where nothing is at two of them and each is at one.
  pub by_places : (ks : List K) (xs : List X) → AtOnce ks → AllByRecursion (λ x. at_some ks x ≡ true) xs → IsPermutation xs (at_each ks xs)
  by_places [] xs apart all = subst (λ ys. IsPermutation ys []) (sym (nowhere xs all)) (IsPermutation-refl [])
  by_places (k ∷ ks) xs apart all =
      let left = filter (λ x. not (at k x)) xs in
      IsPermutation-trans xs (filter (at k) xs ++ left) (filter (at k) xs ++ at_each ks xs)
      (IsPermutation-filter_both (at k) (λ x. not (at k x)) (λ x. refl) xs)
      (IsPermutation-append_right (filter (at k) xs) left (at_each ks xs)
      (subst (IsPermutation left) (left_at_each k ks xs apart.0) (by_places ks left apart.1 (left_somewhere k ks xs all))))

  -- where at each place there is at most one
  pub at_most_one : (xs : List X) (one : K → Option X) (ks : List K) → AllByRecursion (λ k. filter (at k) xs ≡ option_list (one k)) ks
      → at_each ks xs ≡ filter_map one ks
  at_most_one xs one [] all = refl
  at_most_one xs one (k ∷ ks) all =
      ap (λ ys. ys ++ at_each ks xs) all.0 ∙ (ap (λ ys. option_list (one k) ++ ys) (at_most_one xs one ks all.1) ∙ joined (one k) (filter_map one ks))
    where
      joined : (o : Option X) (ys : List X) → option_list o ++ ys ≡ cons_option o ys
      joined None ys = refl
      joined (Some x) ys = refl

-- how many are given, where each gives one
pub length_each : {X K : Type 0} (test : K → Bool) (one : K → Option X) (ks : List K)
    → AllByRecursion (λ k. length (option_list (one k)) ≡ (if test k then 1 else 0)) ks → length (filter_map one ks) ≡ length (filter test ks)
length_each test one [] all = refl
length_each {X} test one (k ∷ ks) all = by (one k) (test k) all.0 (length_each test one ks all.1)
  where
    by : (o : Option X) (b : Bool) → length (option_list o) ≡ (if b then 1 else 0) → length (filter_map one ks) ≡ length (filter test ks)
        → length (cons_option o (filter_map one ks)) ≡ length (if b then k ∷ filter test ks else filter test ks)
    by None true is rest = absurd (cc)
    by None false is rest = rest
    by (Some x) true is rest = ap suc rest
    by (Some x) false is rest = absurd (cc)

-- ---- a list in order

module _ {X : Type 0} (before : X → X → Bool) (turns : (a b : X) → before a b ≡ true → before b a ≡ false)
    (chains : (a b c : X) → before b a ≡ false → before c b ≡ false → before c a ≡ false) where
  -- one put before the first that it does not follow
  abbrev put_in : X → List X → List X
  put_in x [] = x ∷ []
  put_in x (y ∷ ys) = if before y x then y ∷ put_in x ys else x ∷ y ∷ ys

  -- a list in order
  abbrev in_order_of : List X → List X
  in_order_of [] = []
  in_order_of (x ∷ xs) = put_in x (in_order_of xs)

  -- none comes before an earlier one
  abbrev Up : List X → Type 0
  Up [] = Unit {0}
  Up (x ∷ xs) = AllByRecursion (λ y. before y x ≡ false) xs × Up xs

  -- nothing is lost
  put_same : (x : X) (ys : List X) → IsPermutation (x ∷ ys) (put_in x ys)
  put_same x [] = IsPermutation-refl (x ∷ [])
  put_same x (y ∷ ys) = by (before y x) (put_same x ys)
    where
      by : (b : Bool) → IsPermutation (x ∷ ys) (put_in x ys) → IsPermutation (x ∷ y ∷ ys) (if b then y ∷ put_in x ys else x ∷ y ∷ ys)
      by true rest =
          IsPermutation-trans (x ∷ y ∷ ys) (y ∷ x ∷ ys) (y ∷ put_in x ys)
          (IsPermutation-append_left ys (x ∷ y ∷ []) (y ∷ x ∷ []) (IsPermutation-append_comm (x ∷ []) (y ∷ [])))
          (IsPermutation-cons y (x ∷ ys) (put_in x ys) rest)
      by false rest = IsPermutation-refl (x ∷ y ∷ ys)

  -- what holds of one and of each of a list holds of each where it is put in
  put_all : (P : X → Type 0) (x : X) (ys : List X) → P x → AllByRecursion P ys → AllByRecursion P (put_in x ys)
  put_all P x [] here all = (here, tt)
  put_all P x (y ∷ ys) here all = by (before y x) (put_all P x ys here all.1)
    where
      by : (b : Bool) → AllByRecursion P (put_in x ys) → AllByRecursion P (if b then y ∷ put_in x ys else x ∷ y ∷ ys)
      by true rest = (all.0, rest)
      by false rest = (here, all)

  -- the list stays in order
  put_up : (x : X) (ys : List X) → Up ys → Up (put_in x ys)
  put_up x [] up = (tt, tt)
  put_up x (y ∷ ys) up = by (before y x) refl (put_up x ys up.1)
    where
      after : (zs : List X) → before y x ≡ false → AllByRecursion (λ z. before z y ≡ false) zs → AllByRecursion (λ z. before z x ≡ false) zs
      after [] is all = tt
      after (z ∷ zs) is all = (chains x y z is all.0, after zs is all.1)

      by : (b : Bool) → before y x ≡ b → Up (put_in x ys) → Up (if b then y ∷ put_in x ys else x ∷ y ∷ ys)
      by true is rest = (put_all (λ z. before z y ≡ false) x ys (turns y x is) up.0, rest)
      by false is rest = ((is, after ys is up.0), up)

  -- any two of a list in order
  up_pairs : (xs : List X) → Up xs → AllPairs (λ a b. before b a ≡ false) xs
  up_pairs [] up = λ i j d less within. absurd (omega (arith, within))
  up_pairs (x ∷ xs) up =
      AllPairs-cons (λ a b. before b a ≡ false) x xs (All-from_recursion (λ y. before y x ≡ false) xs up.0) (up_pairs xs up.1)

  -- the list in order has the same and is in order
  same_and_up : (xs : List X) → IsPermutation xs (in_order_of xs) × Up (in_order_of xs)
  same_and_up [] = (IsPermutation-refl [], tt)
  same_and_up (x ∷ xs) =
      let rest = same_and_up xs in (
        IsPermutation-trans (x ∷ xs) (x ∷ in_order_of xs) (put_in x (in_order_of xs))
            (IsPermutation-cons x xs (in_order_of xs) rest.0) (put_same x (in_order_of xs)),
        put_up x (in_order_of xs) rest.1,
      )

  -- each list can be put in order
  pub some_order : (xs : List X) → (ys : List X) × IsPermutation xs ys × AllPairs (λ a b. before b a ≡ false) ys
  some_order xs =
      let all = same_and_up xs in
      (in_order_of xs, all.0, up_pairs (in_order_of xs) all.1)

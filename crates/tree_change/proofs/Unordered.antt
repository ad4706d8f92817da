-- Lists by the ids of what they have, and lists that are sorted.
use Rattle.std.proofs.Common.{◌≡◌, ℕ, ◌<◌, ◌≤◌, ◌==◌, Bool, true, false, not, ◌||◌, List, [], ◌∷◌, ◌++◌, ◌⊎◌, inl, inr, length, refl, ap, sym}
use Rattle.std.proofs.Common.{subst, ◌∙◌, arith, slice_index_or}
use Rattle.std.proofs.lemmas.Bool.Decides.{nat_tests}
use Rattle.std.proofs.lemmas.Bool.{cases_eq, cases_lt}
use Rattle.std.proofs.lemmas.List.Edits.{Swapped, length-swap, swapped_from_swap}
use Rattle.std.proofs.lemmas.List.Sorted.{IsPermutation-append_right, IsPermutation-filter_both, IsPermutation-keeps, IsPermutation-refl}
use Rattle.std.proofs.lemmas.List.Sorted.{IsPermutation-trans}
use Rattle.std.specs.List.{AllByRecursion, AllPairs, filter, flat_map, list_any, swap}
use Rattle.std.specs.List.Sorted.{IsPermutation}
use Rattle.tree_laws.specs.MergedLaw.{IsInOrder}
use Rattle.tree_change.specs.Merging.{IsSortedOf}

-- where the element of an exchanged list was
abbrev From : ℕ → ℕ → ℕ → ℕ → Type 0
From i j k m = ((k ≡ i) × (m ≡ j)) ⊎ (((k ≡ j) × (m ≡ i)) ⊎ ((k ≡ i → ⊥) × (k ≡ j → ⊥) × (m ≡ k)))

from_apart : (i j k m u v : ℕ) → From i j k u → From i j m v → k < m → u ≡ v → ⊥
from_apart i j k m u v (inl a) (inl b) less same = let x = a.0 in let y = b.0 in absurd (omega (arith, x, y))
from_apart i j k m u v (inl a) (inr (inl b)) less same =
    let x = a.0 in let y = b.0 in let z = a.1 in let w = b.1 in absurd (omega (arith, x, y, z, w))
from_apart i j k m u v (inl a) (inr (inr b)) less same = b.1 (sym b.2 ∙ (sym same ∙ a.1))
from_apart i j k m u v (inr (inl a)) (inl b) less same =
    let x = a.0 in let y = b.0 in let z = a.1 in let w = b.1 in absurd (omega (arith, x, y, z, w))
from_apart i j k m u v (inr (inl a)) (inr (inl b)) less same = let x = a.0 in let y = b.0 in absurd (omega (arith, x, y))
from_apart i j k m u v (inr (inl a)) (inr (inr b)) less same = b.0 (sym b.2 ∙ (sym same ∙ a.1))
from_apart i j k m u v (inr (inr a)) (inl b) less same = a.1 (sym a.2 ∙ (same ∙ b.1))
from_apart i j k m u v (inr (inr a)) (inr (inl b)) less same = a.0 (sym a.2 ∙ (same ∙ b.1))
from_apart i j k m u v (inr (inr a)) (inr (inr b)) less same = let x = a.2 in let y = b.2 in absurd (omega (arith, x, y))

module _ {X : Type 0} where
  source : (l : List X) (i j k : ℕ) (d : X) → i < length l → j < length l
      → (m : ℕ) × (slice_index_or (swap l i j) k d ≡ slice_index_or l m d) × From i j k m
  source [] i j k d p q = absurd (omega arith)
  source (x ∷ l) i j k d p q = by (cases_eq k i) (cases_eq k j)
    where
      w : Swapped (λ n. slice_index_or (x ∷ l) n d) (λ n. slice_index_or (swap (x ∷ l) i j) n d) i j
      w = swapped_from_swap (x ∷ l) (swap (x ∷ l) i j) i j d p q refl

      by : (k ≡ i) ⊎ (k ≡ i → ⊥) → (k ≡ j) ⊎ (k ≡ j → ⊥)
          → (m : ℕ) × (slice_index_or (swap (x ∷ l) i j) k d ≡ slice_index_or (x ∷ l) m d) × From i j k m
      by (inl e) other = (j, ap (λ n. slice_index_or (swap (x ∷ l) i j) n d) e ∙ w.0, inl (e, refl))
      by (inr a) (inl e) = (i, ap (λ n. slice_index_or (swap (x ∷ l) i j) n d) e ∙ w.1, inr (inl (e, refl)))
      by (inr a) (inr b) = (k, w.2 k a b, inr (inr (a, b, refl)))

module _ {X : Type 0} (R : X → X → Type 0) (turns : (a b : X) → R a b → R b a) where
  -- what holds of any two of a list, in one order or the other, holds of any two of a list that has the same
  swapped_pairs : (l : List X) (i j : ℕ) → i < length l → j < length l → AllPairs R l → AllPairs R (swap l i j)
  swapped_pairs l i j p q all k m d less within =
      let u = source l i j k d p q in
      let v = source l i j m d p q in
      let long = length-swap l i j in
      by u.0 v.0 u.1 v.1 (inside k u.0 u.2 (omega (arith, long))) (inside m v.0 v.2 (omega (arith, long)))
      (from_apart i j k m u.0 v.0 u.2 v.2 less)
    where
      inside : (k m : ℕ) → From i j k m → k < length l → m < length l
      inside k m (inl a) is = let x = a.1 in omega (arith, x)
      inside k m (inr (inl a)) is = let x = a.1 in omega (arith, x)
      inside k m (inr (inr a)) is = let x = a.2 in omega (arith, x)

      by : (u v : ℕ) → slice_index_or (swap l i j) k d ≡ slice_index_or l u d → slice_index_or (swap l i j) m d ≡ slice_index_or l v d
          → u < length l → v < length l → (u ≡ v → ⊥) → R (slice_index_or (swap l i j) k d) (slice_index_or (swap l i j) m d)
      by u v a b x y apart = rw (a, b) (turned (order u v apart))
        where
          order : (u v : ℕ) → (u ≡ v → ⊥) → (u < v) ⊎ (v < u)
          order u v apart = by_less (cases_lt u v)
            where
              by_less : (u < v) ⊎ (v ≤ u) → (u < v) ⊎ (v < u)
              by_less (inl less) = inl less
              by_less (inr more) = inr (omega (arith, more, apart))

          turned : (u < v) ⊎ (v < u) → R (slice_index_or l u d) (slice_index_or l v d)
          turned (inl less) = all u v d less y
          turned (inr less) = turns (slice_index_or l v d) (slice_index_or l u d) (all v u d less x)

  pub permuted_pairs : (xs ys : List X) → IsPermutation xs ys → AllPairs R xs → AllPairs R ys
  permuted_pairs xs ys perm all =
      IsPermutation-keeps xs (AllPairs R) all (λ l i j p q h. swapped_pairs l i j p q h) ys perm

-- Where any two of a list are in one order or the other, a sorted list that has the same is in order.
pub in_order : {X : Type 0} (before : X → X → Bool) (target made sorted : List X) → IsPermutation target made → IsSortedOf before made sorted
    → AllPairs (λ a b. (before a b || before b a) ≡ true) target → IsInOrder before target sorted
in_order {X} before target made sorted perm sort apart =
    let whole : IsPermutation target sorted = IsPermutation-trans target made sorted perm sort.all in
    let all = permuted_pairs (λ a b. (before a b || before b a) ≡ true) turns target sorted whole apart in
    record {
      all = whole;
      ascends = λ i j d less within. first (before (slice_index_or sorted i d) (slice_index_or sorted j d))
          (before (slice_index_or sorted j d) (slice_index_or sorted i d)) (all i j d less within) (sort.ascends i j d less within);
    }
  where
    turn : (a b : Bool) → (a || b) ≡ true → (b || a) ≡ true
    turn true true is = refl
    turn true false is = refl
    turn false true is = refl
    turn false false is = is

    turns : (a b : X) → (before a b || before b a) ≡ true → (before b a || before a b) ≡ true
    turns a b is = turn (before a b) (before b a) is

    first : (a b : Bool) → (a || b) ≡ true → b ≡ false → a ≡ true
    first true b is none = refl
    first false true is none = absurd (cc)
    first false false is none = is

-- whether an id is one of some, and ids of which no two are the same
abbrev pub listed : ℕ → List ℕ → Bool
listed id ids = list_any (λ n. n == id) ids

abbrev pub Distinct : List ℕ → Type 0
Distinct [] = Unit {0}
Distinct (n ∷ ids) = AllByRecursion (λ m. (m == n) ≡ false) ids × Distinct ids

-- what passes a test, of what passes another
pub filter_swap : {X : Type 0} (p q r : X → Bool) → ((x : X) → p x ≡ true → r x ≡ q x) → (xs : List X)
    → filter r (filter p xs) ≡ filter p (filter q xs)
filter_swap p q r same [] = refl
filter_swap p q r same (x ∷ xs) = by (p x) (q x) refl refl (filter_swap p q r same xs)
  where
    by : (a b : Bool) → p x ≡ a → q x ≡ b → filter r (filter p xs) ≡ filter p (filter q xs)
        → filter r (filter p (x ∷ xs)) ≡ filter p (filter q (x ∷ xs))
    by true true a b rest = rw (a, b, same x a, b, a) (ap (λ ys. x ∷ ys) rest)
    by true false a b rest = rw (a, b, same x a, b) rest
    by false true a b rest = rw (a, b, a) rest
    by false false a b rest = rw (a, b) rest

-- one that passes a test and all that pass it
pub any_filter : {X : Type 0} (p q : X → Bool) → ((x : X) → q x ≡ true → p x ≡ true) → (xs : List X) → list_any q (filter p xs) ≡ list_any q xs
any_filter p q through [] = refl
any_filter p q through (x ∷ xs) = by (p x) (q x) refl refl (any_filter p q through xs)
  where
    by : (a b : Bool) → p x ≡ a → q x ≡ b → list_any q (filter p xs) ≡ list_any q xs → list_any q (filter p (x ∷ xs)) ≡ list_any q (x ∷ xs)
    by true b is also rest = rw is (ap (λ t. q x || t) rest)
    by false true is also rest = let h : p x ≡ true = through x also in absurd (cc)
    by false false is also rest = rw (is, also) rest

-- what holds of each of a list holds of each that passes a test
pub all_filter : {X : Type 0} (P : X → Type 0) (p : X → Bool) (xs : List X) → AllByRecursion P xs → AllByRecursion P (filter p xs)
all_filter P p [] all = tt
all_filter P p (x ∷ xs) all = by (p x) refl (all_filter P p xs all.1)
  where
    by : (a : Bool) → p x ≡ a → AllByRecursion P (filter p xs) → AllByRecursion P (filter p (x ∷ xs))
    by true is rest = rw is (all.0, rest)
    by false is rest = rw is rest

module _ {X : Type 0} (id : X → ℕ) where
  -- those of an id, and those of each of some ids
  abbrev pub of_id : ℕ → List X → List X
  of_id n xs = filter (λ x. id x == n) xs

  abbrev pub of_ids : List ℕ → List X → List X
  of_ids ids xs = flat_map (λ n. of_id n xs) ids

  -- where all are of an id, and where none is
  pub all_of_id : (n : ℕ) (xs : List X) → AllByRecursion (λ x. id x ≡ n) xs → of_id n xs ≡ xs
  all_of_id n [] all = refl
  all_of_id n (x ∷ xs) all = rw (itself (id x) n all.0) (ap (λ ys. x ∷ ys) (all_of_id n xs all.1))
    where
      itself : (m n : ℕ) → m ≡ n → (m == n) ≡ true
      itself m n is = grind (arith, nat_tests)

  pub none_of_id : (n : ℕ) (xs : List X) → AllByRecursion (λ x. (id x == n) ≡ false) xs → of_id n xs ≡ []
  none_of_id n [] all = refl
  none_of_id n (x ∷ xs) all = rw all.0 (none_of_id n xs all.1)

  -- those of an id that are not of another
  left_of_id : (n m : ℕ) → (m == n) ≡ false → (xs : List X) → of_id m (filter (λ x. not (id x == n)) xs) ≡ of_id m xs
  left_of_id n m other [] = refl
  left_of_id n m other (x ∷ xs) = by (id x == n) (id x == m) refl refl (left_of_id n m other xs)
    where
      never : (k n m : ℕ) → (k == n) ≡ true → (k == m) ≡ true → (m == n) ≡ false → ⊥
      never k n m a b c = grind (arith, nat_tests)

      by : (a b : Bool) → (id x == n) ≡ a → (id x == m) ≡ b → of_id m (filter (λ x. not (id x == n)) xs) ≡ of_id m xs
          → of_id m (filter (λ x. not (id x == n)) (x ∷ xs)) ≡ of_id m (x ∷ xs)
      by true true a b rest = elim (never (id x) n m a b other) [ ]
      by true false a b rest = rw (a, b) rest
      by false true a b rest = rw (a, b) (ap (λ ys. x ∷ ys) rest)
      by false false a b rest = rw (a, b) rest

  left_of_ids : (n : ℕ) (ids : List ℕ) (xs : List X) → AllByRecursion (λ m. (m == n) ≡ false) ids
      → of_ids ids (filter (λ x. not (id x == n)) xs) ≡ of_ids ids xs
  left_of_ids n [] xs all = refl
  left_of_ids n (m ∷ ids) xs all =
      ap (λ ys. ys ++ of_ids ids (filter (λ x. not (id x == n)) xs)) (left_of_id n m all.0 xs)
      ∙ ap (λ ys. of_id m xs ++ ys) (left_of_ids n ids xs all.1)

  -- those that are left are of the ids that are left
  left_listed : (n : ℕ) (ids : List ℕ) (xs : List X) → AllByRecursion (λ x. listed (id x) (n ∷ ids) ≡ true) xs
      → AllByRecursion (λ x. listed (id x) ids ≡ true) (filter (λ x. not (id x == n)) xs)
  left_listed n ids [] all = tt
  left_listed n ids (x ∷ xs) all = by (id x == n) refl (left_listed n ids xs all.1)
    where
      turned : (k n : ℕ) → (k == n) ≡ false → (n == k) ≡ false
      turned k n is = grind (arith, nat_tests)

      or_later : (a b : Bool) → a ≡ false → (a || b) ≡ true → b ≡ true
      or_later true b none is = absurd (cc)
      or_later false b none is = is

      by : (a : Bool) → (id x == n) ≡ a → AllByRecursion (λ x. listed (id x) ids ≡ true) (filter (λ x. not (id x == n)) xs)
          → AllByRecursion (λ x. listed (id x) ids ≡ true) (filter (λ x. not (id x == n)) (x ∷ xs))
      by true is rest = rw is rest
      by false is rest = rw is (or_later (n == id x) (listed (id x) ids) (turned (id x) n is) all.0, rest)

  none_listed : (xs : List X) → AllByRecursion (λ x. listed (id x) [] ≡ true) xs → xs ≡ []
  none_listed [] all = refl
  none_listed (x ∷ xs) all = let h = all.0 in absurd (cc)

  -- A list is made of those of each id, in whatever order the ids are.
  pub by_ids : (ids : List ℕ) (xs : List X) → Distinct ids → AllByRecursion (λ x. listed (id x) ids ≡ true) xs → IsPermutation xs (of_ids ids xs)
  by_ids [] xs apart all = subst (λ ys. IsPermutation ys []) (sym (none_listed xs all)) (IsPermutation-refl [])
  by_ids (n ∷ ids) xs apart all =
      let left = filter (λ x. not (id x == n)) xs in
      IsPermutation-trans xs (of_id n xs ++ left) (of_id n xs ++ of_ids ids xs)
      (IsPermutation-filter_both (λ x. id x == n) (λ x. not (id x == n)) (λ x. refl) xs)
      (IsPermutation-append_right (of_id n xs) left (of_ids ids xs)
      (subst (IsPermutation left) (left_of_ids n ids xs apart.0) (by_ids ids left apart.1 (left_listed n ids xs all))))

-- an id is one of two lists where it is one of either
pub listed_append : (id : ℕ) (a b : List ℕ) → listed id (a ++ b) ≡ (listed id a || listed id b)
listed_append id [] b = refl
listed_append id (n ∷ a) b = rw (listed_append id a b) (joined (n == id) (listed id a) (listed id b))
  where
    joined : (x y z : Bool) → (x || (y || z)) ≡ ((x || y) || z)
    joined true y z = refl
    joined false y z = refl

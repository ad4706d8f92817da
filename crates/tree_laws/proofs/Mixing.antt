-- Lists that are made of two, the order of each kept, and lists in order.
use Rattle.std.proofs.Common.{◌≡◌, Bool, true, false, not, ◌||◌, List, [], ◌∷◌, ◌++◌, ◌⊎◌, inl, inr, refl, ap, sym, subst, ◌∙◌, arith}
use Rattle.std.proofs.lemmas.Grind.{common_steps}
use Rattle.std.proofs.lemmas.List.Elements.{All-from_recursion}
use Rattle.std.proofs.lemmas.List.Kept.{AllPairs-cons}
use Rattle.std.proofs.lemmas.List.Sorted.{IsPermutation-cons, IsPermutation-middle, IsPermutation-refl, IsPermutation-trans}
use Rattle.std.specs.Prelude.{Option, Some, None}
use Rattle.std.specs.List.{AllByRecursion, AllPairs, cons_option, filter, filter_map, list_any}
use Rattle.std.specs.List.Sorted.{IsPermutation}
use Rattle.verdict.proofs.Truth.{or_none, or_right}
use Rattle.verdict.specs.OnDisk.{key_below, key_same}
use Rattle.verdict.specs.declared.key.Key.{Key}
use Rattle.records.specs.Part.{Located}
use Rattle.tree_laws.specs.MergedLaw.{stands_before}
use Rattle.tree_laws.proofs.Bounds.{below_trans}

-- a list is made of two others
pub data Mixed {X : Type 0} : List X → List X → List X → Type 0 where
  Empty : Mixed [] [] []
  First : (a b whole : List X) (x : X) → Mixed a b whole → Mixed (x ∷ a) b (x ∷ whole)
  Later : (a b whole : List X) (x : X) → Mixed a b whole → Mixed a (x ∷ b) (x ∷ whole)

module _ {X : Type 0} where
  -- the first of the whole are the first of one of the two
  pub mixed_first : (xs a b whole : List X) → Mixed a b whole → Mixed (xs ++ a) b (xs ++ whole)
  mixed_first [] a b whole m = m
  mixed_first (x ∷ xs) a b whole m = First (xs ++ a) b (xs ++ whole) x (mixed_first xs a b whole m)

  pub mixed_later : (xs a b whole : List X) → Mixed a b whole → Mixed a (xs ++ b) (xs ++ whole)
  mixed_later [] a b whole m = m
  mixed_later (x ∷ xs) a b whole m = Later a (xs ++ b) (xs ++ whole) x (mixed_later xs a b whole m)

  pub mixed_permutes : (a b whole : List X) → Mixed a b whole → IsPermutation (a ++ b) whole
  mixed_permutes _ _ _ Empty = IsPermutation-refl []
  mixed_permutes _ _ _ (First a1 b1 w1 x m) = IsPermutation-cons x (a1 ++ b1) w1 (mixed_permutes a1 b1 w1 m)
  mixed_permutes _ _ _ (Later a1 b1 w1 x m) =
      IsPermutation-trans (a1 ++ x ∷ b1) (x ∷ (a1 ++ b1)) (x ∷ w1) (IsPermutation-middle a1 x b1)
      (IsPermutation-cons x (a1 ++ b1) w1 (mixed_permutes a1 b1 w1 m))

  -- what holds of each of the whole holds of each of the two
  mixed_all : (P : X → Type 0) (a b whole : List X) → Mixed a b whole → AllByRecursion P whole → AllByRecursion P a × AllByRecursion P b
  mixed_all P _ _ _ Empty all = (tt, tt)
  mixed_all P _ _ _ (First a1 b1 w1 x m) all = let rest = mixed_all P a1 b1 w1 m all.1 in ((all.0, rest.0), rest.1)
  mixed_all P _ _ _ (Later a1 b1 w1 x m) all = let rest = mixed_all P a1 b1 w1 m all.1 in (rest.0, (all.0, rest.1))

module _ {X Y : Type 0} (f : X → Option Y) where
  made_first : (made : Option Y) (a b w : List Y) → Mixed a b w → Mixed (cons_option made a) b (cons_option made w)
  made_first None a b w m = m
  made_first (Some y) a b w m = First a b w y m

  made_later : (made : Option Y) (a b w : List Y) → Mixed a b w → Mixed a (cons_option made b) (cons_option made w)
  made_later None a b w m = m
  made_later (Some y) a b w m = Later a b w y m

  -- what is made of each of the whole
  pub mixed_map : (a b whole : List X) → Mixed a b whole → Mixed (filter_map f a) (filter_map f b) (filter_map f whole)
  mixed_map _ _ _ Empty = Empty
  mixed_map _ _ _ (First a1 b1 w1 x m) = made_first (f x) (filter_map f a1) (filter_map f b1) (filter_map f w1) (mixed_map a1 b1 w1 m)
  mixed_map _ _ _ (Later a1 b1 w1 x m) = made_later (f x) (filter_map f a1) (filter_map f b1) (filter_map f w1) (mixed_map a1 b1 w1 m)

module _ {X : Type 0} (before : X → X → Bool) where
  -- one stands before all of these, and each before all later ones
  abbrev pub Before : X → List X → Type 0
  Before x xs = AllByRecursion (λ y. before x y ≡ true) xs

  abbrev pub InOrder : List X → Type 0
  InOrder [] = Unit {0}
  InOrder (x ∷ xs) = Before x xs × InOrder xs

  pub pairs_of : (xs : List X) → InOrder xs → AllPairs (λ a b. before a b ≡ true) xs
  pairs_of [] all = λ i j d less within. absurd (omega arith)
  pairs_of (x ∷ xs) all =
      AllPairs-cons (λ a b. before a b ≡ true) x xs (All-from_recursion (λ y. before x y ≡ true) xs all.0) (pairs_of xs all.1)

  pub mixed_order : (a b whole : List X) → Mixed a b whole → InOrder whole → InOrder a
  mixed_order _ _ _ Empty all = tt
  mixed_order _ _ _ (First a1 b1 w1 x m) all =
      ((mixed_all (λ y. before x y ≡ true) a1 b1 w1 m all.0).0, mixed_order a1 b1 w1 m all.1)
  mixed_order _ _ _ (Later a1 b1 w1 x m) all = mixed_order a1 b1 w1 m all.1

-- what is made of each of a list in order is in order
module _ {X Y : Type 0} (f : X → Option Y) (P : X → Type 0) (before : X → X → Bool) (later : Y → Y → Bool)
    (keeps : (x y : X) → P x → P y → before x y ≡ true → (c d : Y) → f x ≡ Some c → f y ≡ Some d → later c d ≡ true) where
  made_before : (x : X) (c : Y) → P x → f x ≡ Some c → (xs : List X) → AllByRecursion P xs → Before before x xs → Before later c (filter_map f xs)
  made_before x c p is [] all less = tt
  made_before x c p is (y ∷ xs) all less = by (f y) refl (made_before x c p is xs all.1 less.1)
    where
      by : (made : Option Y) → f y ≡ made → Before later c (filter_map f xs) → Before later c (cons_option made (filter_map f xs))
      by None at rest = rest
      by (Some d) at rest = (keeps x y p all.0 less.0 c d is at, rest)

  pub order_made : (xs : List X) → AllByRecursion P xs → InOrder before xs → InOrder later (filter_map f xs)
  order_made [] all order = tt
  order_made (x ∷ xs) all order = by (f x) refl (order_made xs all.1 order.1)
    where
      by : (made : Option Y) → f x ≡ made → InOrder later (filter_map f xs) → InOrder later (cons_option made (filter_map f xs))
      by None at rest = rest
      by (Some c) at rest = (made_before x c all.0 at xs all.1 order.0, rest)

-- of two that stand one before the other none is the same as the other, and each is the same as itself
pub record TellsApart {X : Type 0} (before same : X → X → Bool) : Type 0 where
  pub first : (a b : X) → before a b ≡ true → same a b ≡ false
  pub later : (a b : X) → before a b ≡ true → same b a ≡ false
  pub itself : (a : X) → same a a ≡ true

module _ {X : Type 0} (before same : X → X → Bool) (apart : TellsApart before same) where
  -- one of some is the same as another
  abbrev pub is_in : List X → X → Bool
  is_in some x = list_any (λ one. same one x) some

  none_before : (x : X) (b : List X) → Before before x b → is_in b x ≡ false
  none_before x [] all = refl
  none_before x (y ∷ b) all = or_none (same y x) (is_in b x) (apart.later x y all.0) (none_before x b all.1)

  -- none of the first list is the same as one of the second
  mixed_apart : (a b whole : List X) → Mixed a b whole → InOrder before whole → AllByRecursion (λ x. is_in b x ≡ false) a
  mixed_apart _ _ _ Empty all = tt
  mixed_apart _ _ _ (First a1 b1 w1 x m) all =
      (none_before x b1 (mixed_all (λ y. before x y ≡ true) a1 b1 w1 m all.0).1, mixed_apart a1 b1 w1 m all.1)
  mixed_apart _ _ _ (Later a1 b1 w1 x m) all =
      joined a1 (mixed_all (λ y. before x y ≡ true) a1 b1 w1 m all.0).0 (mixed_apart a1 b1 w1 m all.1)
    where
      joined : (ys : List X) → Before before x ys → AllByRecursion (λ y. is_in b1 y ≡ false) ys
          → AllByRecursion (λ y. is_in (x ∷ b1) y ≡ false) ys
      joined [] above rest = tt
      joined (y ∷ ys) above rest = (or_none (same x y) (is_in b1 y) (apart.first x y above.0) rest.0, joined ys above.1 rest.1)

  itself_all : (b : List X) → AllByRecursion (λ x. is_in b x ≡ true) b
  itself_all [] = tt
  itself_all (x ∷ b) = (ap (λ t. t || is_in b x) (apart.itself x), more b (itself_all b))
    where
      more : (ys : List X) → AllByRecursion (λ y. is_in b y ≡ true) ys → AllByRecursion (λ y. is_in (x ∷ b) y ≡ true) ys
      more [] all = tt
      more (y ∷ ys) all = (or_right (same x y) (is_in b y) all.0, more ys all.1)

  filter_mixed : (test : X → Bool) (a b whole : List X) → Mixed a b whole
      → AllByRecursion (λ x. test x ≡ false) a → AllByRecursion (λ x. test x ≡ true) b → filter (λ x. not (test x)) whole ≡ a
  filter_mixed test _ _ _ Empty out gone = refl
  filter_mixed test _ _ _ (First a1 b1 w1 x m) out gone =
      rw out.0 (ap (λ xs. x ∷ xs) (filter_mixed test a1 b1 w1 m out.1 gone))
  filter_mixed test _ _ _ (Later a1 b1 w1 x m) out gone = rw gone.0 (filter_mixed test a1 b1 w1 m out gone.1)

  -- of a list in order those are left that are the same as none of the second
  pub filter_gone : (a b whole : List X) → Mixed a b whole → InOrder before whole → filter (λ x. not (is_in b x)) whole ≡ a
  filter_gone a b whole m all = filter_mixed (is_in b) a b whole m (mixed_apart a b whole m all) (itself_all b)

-- keys tell items apart
pub apart_first : (a b : Key) → key_below a b ≡ true → key_same a b ≡ false
apart_first a b less = grind (arith, common_steps)

apart_later : (a b : Key) → key_below a b ≡ true → key_same b a ≡ false
apart_later a b less = grind (arith, common_steps)

pub same_itself : (k : Key) → key_same k k ≡ true
same_itself k = grind (arith, common_steps)

pub by_key : {X : Type 0} (key : X → Key) → TellsApart (λ a b. key_below (key a) (key b)) (λ a b. key_same (key a) (key b))
by_key key = record {
  first = λ a b less. apart_first (key a) (key b) less;
  later = λ a b less. apart_later (key a) (key b) less;
  itself = λ a. same_itself (key a);
}

-- this item stands in a list
abbrev pub Has : Located → List Located → Type 0
Has x [] = ⊥
Has x (y ∷ ys) = (y ≡ x) ⊎ Has x ys

pub has_append : (x : Located) (first later : List Located) → Has x (first ++ later) → Has x first ⊎ Has x later
has_append x [] later has = inr has
has_append x (y ∷ first) later (inl here) = inl (inl here)
has_append x (y ∷ first) later (inr has) = by (has_append x first later has)
  where
    by : Has x first ⊎ Has x later → ((y ≡ x) ⊎ Has x first) ⊎ Has x later
    by (inl there) = inl (inr there)
    by (inr there) = inr there

pub has_first : (x : Located) (first later : List Located) → Has x first → Has x (first ++ later)
has_first x [] later has = elim has [ ]
has_first x (y ∷ first) later (inl here) = inl here
has_first x (y ∷ first) later (inr has) = inr (has_first x first later has)

pub has_later : (x : Located) (first later : List Located) → Has x later → Has x (first ++ later)
has_later x [] later has = has
has_later x (y ∷ first) later has = inr (has_later x first later has)

before_has : (x z : Located) (xs : List Located) → Before stands_before x xs → Has z xs → key_below x.key z.key ≡ true
before_has x z [] all has = elim has [ ]
before_has x z (y ∷ xs) all (inl here) = subst (λ w. key_below x.key w.key ≡ true) here all.0
before_has x z (y ∷ xs) all (inr has) = before_has x z xs all.1 has

never_both : (a b : Key) → key_below a b ≡ true → key_below b a ≡ true → ⊥
never_both a b less more = never (key_below a a) (below_trans a b a less more) (below_self a)
  where
    below_self : (k : Key) → key_below k k ≡ false
    below_self k = grind (arith, common_steps)

    never : (b : Bool) → b ≡ true → b ≡ false → ⊥
    never b is other = cc

-- two lists in order that have the same items are the same
pub one_order : (xs ys : List Located) → InOrder stands_before xs → InOrder stands_before ys
    → ((z : Located) → Has z xs → Has z ys) → ((z : Located) → Has z ys → Has z xs) → xs ≡ ys
one_order [] [] a b into back = refl
one_order [] (y ∷ ys) a b into back = elim (back y (inl refl)) [ ]
one_order (x ∷ xs) [] a b into back = elim (into x (inl refl)) [ ]
one_order (x ∷ xs) (y ∷ ys) a b into back =
    let same : x ≡ y = by (into x (inl refl)) (back y (inl refl)) in
    ap (λ z. z ∷ xs) same ∙ ap (λ zs. y ∷ zs)
    (one_order xs ys a.1 b.1
    (λ z has. skip z y ys (subst (λ w. key_below w.key z.key ≡ true) same (before_has x z xs a.0 has)) (into z (inr has)))
    (λ z has. skip z x xs (subst (λ w. key_below w.key z.key ≡ true) (sym same) (before_has y z ys b.0 has)) (back z (inr has))))
  where
    by : (y ≡ x) ⊎ Has x ys → (x ≡ y) ⊎ Has y xs → x ≡ y
    by (inl here) other = sym here
    by (inr has) (inl here) = here
    by (inr has) (inr there) = elim (never_both y.key x.key (before_has y x ys b.0 has) (before_has x y xs a.0 there)) [ ]

    skip : (z w : Located) (ws : List Located) → key_below w.key z.key ≡ true → (w ≡ z) ⊎ Has z ws → Has z ws
    skip z w ws less (inl here) =
        let itself : key_below w.key w.key ≡ true = subst (λ v. key_below w.key v.key ≡ true) (sym here) less in
        elim (never_both w.key z.key less (subst (λ v. key_below v.key w.key ≡ true) here itself)) [ ]
    skip z w ws less (inr has) = has

-- What is left of lists: what passes a test, and what is made of each.
use Rattle.std.proofs.Common.{◌≡◌, Bool, true, false, cond, ◌⊎◌, inl, inr, List, [], ◌∷◌, map, refl, sym, ap, subst}
use Rattle.std.specs.Prelude.{Option, Some, None}
use Rattle.std.specs.List.{AllPairs, Contains, cons_option, filter, filter_map}
use Rattle.records.specs.declared.rec.ItemAt.{ItemAt}
use Rattle.change_records.specs.Changes.{Ascend, HaveOneKey, is_before}
use Rattle.change_records.proofs.Merge.{contains_first, contains_more, contains_none, from_one}
use Rattle.change_records.proofs.Order.{like_left, like_right, one_key_back}
use Rattle.commit_laws.proofs.named_items.Alike.{ascend_head, ascend_tail, contains_cases, pairs_cons, pairs_head, pairs_tail}

-- ---- what passes a test

module _ {X : Type 0} (p : X → Bool) where
  pub filter_in : (xs : List X) (y : X) → Contains (filter p xs) y → Contains xs y × (p y ≡ true)
  filter_in [] y has = absurd (contains_none y has)
  filter_in (x ∷ xs) y has = by (p x) refl has (filter_in xs y)
    where
      more : Contains xs y × (p y ≡ true) → Contains (x ∷ xs) y × (p y ≡ true)
      more rest = (contains_more x xs y rest.0, rest.1)

      by : (b : Bool) → p x ≡ b → Contains (cond b (x ∷ filter p xs) (filter p xs)) y → (Contains (filter p xs) y → Contains xs y × (p y ≡ true))
          → Contains (x ∷ xs) y × (p y ≡ true)
      by true passes has rest = elim (contains_cases x (filter p xs) y has) [
        | inl here ↦ subst (λ z. Contains (x ∷ xs) z × (p z ≡ true)) here (contains_first x xs, passes)
        | inr later ↦ more (rest later)
      ]
      by false passes has rest = more (rest has)

  pub in_filter : (xs : List X) (y : X) → Contains xs y → p y ≡ true → Contains (filter p xs) y
  in_filter [] y has passes = absurd (contains_none y has)
  in_filter (x ∷ xs) y has passes = by (p x) refl (contains_cases x xs y has) (λ later. in_filter xs y later passes)
    where
      by : (b : Bool) → p x ≡ b → (x ≡ y) ⊎ Contains xs y → (Contains xs y → Contains (filter p xs) y) → Contains (cond b (x ∷ filter p xs) (filter p xs)) y
      by true is (inl here) rest = subst (λ z. Contains (x ∷ filter p xs) z) here (contains_first x (filter p xs))
      by true is (inr later) rest = contains_more x (filter p xs) y (rest later)
      by false is (inl here) rest = absurd (let a : p x ≡ p y = ap p here in cc)
      by false is (inr later) rest = rest later

pub filter_map_both : {X Y : Type 0} (f : X → Y) (p : Y → Bool) (xs : List X) → filter p (map f xs) ≡ map f (filter (λ x. p (f x)) xs)
filter_map_both f p [] = refl
filter_map_both {X} {Y} f p (x ∷ xs) = by (p (f x)) (filter_map_both f p xs)
  where
    by : (b : Bool) → filter p (map f xs) ≡ map f (filter (λ x. p (f x)) xs)
        → cond b (f x ∷ filter p (map f xs)) (filter p (map f xs)) ≡ map f (cond b (x ∷ filter (λ x. p (f x)) xs) (filter (λ x. p (f x)) xs))
    by true same = ap (λ l. f x ∷ l) same
    by false same = same

-- what holds of any two of a list holds of any two that pass a test
module _ {X : Type 0} (R : X → X → Type 0) where
  pub pairs_filter : (p : X → Bool) (xs : List X) → AllPairs R xs → AllPairs R (filter p xs)
  pairs_filter p [] all = all
  pairs_filter p (x ∷ xs) all = by (p x) (pairs_filter p xs (pairs_tail R x xs all))
    where
      by : (b : Bool) → AllPairs R (filter p xs) → AllPairs R (cond b (x ∷ filter p xs) (filter p xs))
      by true rest = pairs_cons R x (filter p xs) (λ y has. pairs_head R x xs all y (filter_in p xs y has).0) rest
      by false rest = rest

pub ascend_filter : (p : ItemAt → Bool) (xs : List ItemAt) → Ascend xs → Ascend (filter p xs)
ascend_filter = pairs_filter (λ (one later : ItemAt). is_before one later ≡ true)

-- ---- what is made of each

pub made_one : {X Y : Type 0} (f : X → Option Y) (xs : List X) (x : X) (y : Y) → Contains xs x → f x ≡ Some y → Contains (filter_map f xs) y
made_one f [] x y has is = absurd (contains_none x has)
made_one {X} {Y} f (z ∷ zs) x y has is = by (contains_cases z zs x has) (λ later. made_one f zs x y later is)
  where
    behind : (o : Option Y) → Contains (filter_map f zs) y → Contains (cons_option o (filter_map f zs)) y
    behind None later = later
    behind (Some w) later = contains_more w (filter_map f zs) y later

    by : (z ≡ x) ⊎ Contains zs x → (Contains zs x → Contains (filter_map f zs) y) → Contains (cons_option (f z) (filter_map f zs)) y
    by (inl here) rest =
        let here_is : f z ≡ Some y = subst (λ w. f w ≡ Some y) (sym here) is in
        subst (λ o. Contains (cons_option o (filter_map f zs)) y) (sym here_is) (contains_first y (filter_map f zs))
    by (inr later) rest = behind (f z) (rest later)

-- What is made of each ascends, where something of the same keys that is made of each does.
module _ {X : Type 0} (f g : X → Option ItemAt) where
  abbrev AreLike : List X → Type 0
  AreLike xs = (x : X) → Contains xs x → (z : ItemAt) → g x ≡ Some z → (y : ItemAt) × (f x ≡ Some y) × HaveOneKey y z

  pub ascend_made : (xs : List X) → AreLike xs → Ascend (filter_map f xs) → Ascend (filter_map g xs)
  ascend_made [] like up = up
  ascend_made (x ∷ xs) like up = by (g x) refl (ascend_made xs (λ z has. like z (contains_more x xs z has)) (rest_of (f x) up))
    where
      rest_of : (o : Option ItemAt) → Ascend (cons_option o (filter_map f xs)) → Ascend (filter_map f xs)
      rest_of None up = up
      rest_of (Some y) up = ascend_tail y (filter_map f xs) up

      before : (z : ItemAt) → g x ≡ Some z → (w : ItemAt) → Contains (filter_map g xs) w → is_before z w ≡ true
      before z is w has =
          let y = like x (contains_first x xs) z is in
          let v = from_one g xs w has in
          let u = like v.0 (contains_more x xs v.0 v.1) w v.2 in
          let whole : Ascend (y.0 ∷ filter_map f xs) = subst (λ o. Ascend (cons_option o (filter_map f xs))) y.1 up in
          let less = ascend_head y.0 (filter_map f xs) whole u.0 (made_one f xs v.0 u.0 v.1 u.1) in
          like_left z y.0 w (one_key_back y.0 z y.2) (like_right y.0 u.0 w u.2 less)

      by : (o : Option ItemAt) → g x ≡ o → Ascend (filter_map g xs) → Ascend (cons_option o (filter_map g xs))
      by None is rest = rest
      by (Some z) is rest = pairs_cons (λ (one later : ItemAt). is_before one later ≡ true) z (filter_map g xs) (before z is) rest

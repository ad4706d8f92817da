-- Spans that stand for all of an image, and how many of them a change of chunks reaches.
use Rattle.std.proofs.Common.{◌≡◌, ℕ, ◌+◌, ◌*◌, ◌≤◌, ◌<◌, ◌==◌, ◌&&◌, ◌||◌, Bool, true, false, not, cond, List, [], ◌∷◌, ◌++◌, length, inl, inr, refl, sym, ap, ◌∙◌, subst, arith}
use Rattle.std.specs.Prelude.{◌⊎◌, Option, Some, None}
use Rattle.std.specs.List.{All, Contains, count_by, filter, filter_map, flat_map, list_any}
use Rattle.std.specs.Cmp.{tied_itself}
use Rattle.std.specs.Ordering.{is_eq}
use Rattle.std.proofs.lemmas.Bool.{and_from, and_parts, eq-eqb, eqb-true, or_left, or_right}
use Rattle.std.proofs.lemmas.List.Elements.{Contains-append_cases}
use Rattle.std.proofs.lemmas.List.Sums.{count_by-le-length, sum_by-append, sum_by-cons}
use Rattle.commit_laws.proofs.named_items.Found.{all_of}
use Rattle.verdict.proofs.Lists.{filter_map_less}
use Rattle.verdict.proofs.Answers.{some_is}
use Rattle.accounts.specs.declared.postings.Posting.{Posting}
use Rattle.span_index.specs.Order.{is_same}
use Rattle.span_index.specs.OrderLaws.{span_total}
use Rattle.span_index.specs.declared.span.Span.{Span}
use Rattle.change_records.specs.Looks.{HaveStops, is_empty_shown, stands_for}
use Rattle.change_records.proofs.Merge.{contains_first, contains_more, from_one}
use Rattle.commit_laws.proofs.Elements.{Among}
use Rattle.commit_laws.proofs.accepted.Sums.{among_left, among_right}
use Rattle.commit_laws.proofs.named_items.Filters.{filter_in}
use Rattle.lookup_bounds.proofs.HousedPosts.{among_of, any_among, filter_among, flat_among}

-- ---- the first of a list that passes a test

abbrev first_that : {X : Type 0} → (X → Bool) → List X → Option X
first_that f [] = None
first_that f (x ∷ xs) = cond (f x) (Some x) (first_that f xs)

no_some : {X : Type 0} (a : X) → None ≡ Some a → ⊥
no_some a is = absurd (cc)

first_here : {X : Type 0} (f : X → Bool) (x : X) (xs : List X) (y : X) (b : Bool) → f x ≡ b → cond b (Some x) (first_that f xs) ≡ Some y
    → (first_that f xs ≡ Some y → Contains xs y × (f y ≡ true)) → Contains (x ∷ xs) y × (f y ≡ true)
first_here f x xs y true here is later =
    let same = some_is x y is in
    (subst (Contains (x ∷ xs)) same (contains_first x xs), subst (λ z. f z ≡ true) same here)
first_here f x xs y false here is later = let rest = later is in (contains_more x xs y rest.0, rest.1)

first_is : {X : Type 0} (f : X → Bool) (xs : List X) (y : X) → first_that f xs ≡ Some y → Contains xs y × (f y ≡ true)
first_is f [] y is = absurd (no_some y is)
first_is f (x ∷ xs) y is = first_here f x xs y (f x) refl is (first_is f xs y)

found_here : {X : Type 0} (f : X → Bool) (z : X) (xs : List X) (x : X) (b : Bool) → f z ≡ b → Among x (z ∷ xs) → f x ≡ true
    → (Among x xs → (y : X) × (first_that f xs ≡ Some y)) → (y : X) × (cond b (Some z) (first_that f xs) ≡ Some y)
found_here f z xs x true here has is later = (z, refl)
found_here f z xs x false here (inl same) is later = absurd (let both : true ≡ false = sym is ∙ (ap f (sym same) ∙ here) in cc)
found_here f z xs x false here (inr rest) is later = later rest

first_some : {X : Type 0} (f : X → Bool) (xs : List X) (x : X) → Among x xs → f x ≡ true → (y : X) × (first_that f xs ≡ Some y)
first_some f [] x has is = elim has [ ]
first_some f (z ∷ xs) x has is = found_here f z xs x (f z) refl has is (λ rest. first_some f xs x rest is)

-- ---- counts

made_here : {X Y : Type 0} (f : X → Option Y) (z : X) (xs : List X) (x : X) (y : Y) (o : Option Y) → f z ≡ o → Among x (z ∷ xs) → f x ≡ Some y
    → (Among x xs → Among y (filter_map f xs)) → Among y (filter_map f (z ∷ xs))
made_here f z xs x y None none (inl same) is later = absurd (no_some y (sym none ∙ (ap f same ∙ is)))
made_here f z xs x y None none (inr rest) is later = rw none (later rest)
made_here f z xs x y (Some w) some (inl same) is later = rw some (inl (some_is w y (sym some ∙ (ap f same ∙ is))))
made_here f z xs x y (Some w) some (inr rest) is later = rw some (inr (later rest))

made_among : {X Y : Type 0} (f : X → Option Y) (xs : List X) (x : X) (y : Y) → Among x xs → f x ≡ Some y → Among y (filter_map f xs)
made_among f [] x y has is = elim has [ ]
made_among f (z ∷ xs) x y has is = made_here f z xs x y (f z) refl has is (λ rest. made_among f xs x y rest is)

-- of some that pass one test and a second then pass a third, no more pass the second than of all the third
count_filtered : {X : Type 0} (q r m : X → Bool) (xs : List X) → ((x : X) → Contains xs x → q x ≡ true → r x ≡ true → m x ≡ true)
    → count_by r (filter q xs) ≤ count_by m xs
count_filtered q r m [] each = omega arith
count_filtered {X} q r m (x ∷ xs) each = by (q x) refl (count_filtered q r m xs (λ y has. each y (contains_more x xs y has)))
  where
    all : count_by m (x ∷ xs) ≡ cond (m x) 1 0 + count_by m xs
    all = sum_by-cons (λ y. cond (m y) 1 0) x xs

    here : (b d : Bool) → (b ≡ true → d ≡ true) → cond {A = ℕ} b 1 0 ≤ cond d 1 0
    here false d is = omega arith
    here true true is = omega arith
    here true false is = absurd (let both : false ≡ true = is refl in cc)

    by : (b : Bool) → q x ≡ b → count_by r (filter q xs) ≤ count_by m xs → count_by r (cond b (x ∷ filter q xs) (filter q xs)) ≤ count_by m (x ∷ xs)
    by true passes rest =
        let first : count_by r (x ∷ filter q xs) ≡ cond (r x) 1 0 + count_by r (filter q xs) = sum_by-cons (λ y. cond (r y) 1 0) x (filter q xs) in
        let less = here (r x) (m x) (each x (contains_first x xs) passes) in
        omega (arith, all, first, rest, less)
    by false passes rest = omega (arith, all, rest)

-- ---- the places

-- where a posting goes, and a sector behind that
abbrev places_of : Posting → List ℕ
places_of p = p.account.block ∷ (p.account.block + 4096) ∷ []

abbrev places : List Posting → List ℕ
places postings = flat_map places_of postings

places_length : (postings : List Posting) → length (places postings) ≡ 2 * length postings
places_length [] = refl
places_length (p ∷ ps) = let rest = places_length ps in omega (arith, rest)

module _ (spans : List Span) (postings : List Posting) (reached met : Span → Bool)
    (near : (span : Span) → Contains spans span → reached span ≡ true
    → (p : Posting) × Among p postings × ((span.first ≡ p.account.block) ⊎ (span.first ≡ p.account.block + 4096)))
    (meets : (span : Span) → Contains spans span → reached span ≡ true → is_empty_shown span ≡ false → met span ≡ true) where
  -- an empty one at an address
  abbrev is_empty_at : ℕ → Span → Bool
  is_empty_at place span = is_empty_shown span && span.first == place

  abbrev empty_at : ℕ → Option Span
  empty_at place = first_that (is_empty_at place) spans

  abbrev stays : Span → Bool
  stays span = not (is_empty_shown span && reached span)

  -- all spans but the empty ones that are reached, and of these one at each place
  abbrev pub stops : List Span
  stops = filter stays spans ++ filter_map empty_at (places postings)

  pub stops_among : (span : Span) → Contains stops span → Contains spans span
  stops_among span has = elim (Contains-append_cases (filter stays spans) (filter_map empty_at (places postings)) span has) [
    | inl first ↦ (filter_in stays spans span first).0
    | inr second ↦
        let made = from_one empty_at (places postings) span second in
        (first_is (is_empty_at made.0) spans span made.2).0
  ]

  itself : (span : Span) → stands_for span span ≡ true
  unfolding stands_for is_same
  itself span = or_left (is_same span span) (is_empty_shown span && (is_empty_shown span && span.first == span.first)) (ap is_eq (tied_itself span_total span))

  place_in : (span : Span) (p : Posting) → (span.first ≡ p.account.block) ⊎ (span.first ≡ p.account.block + 4096) → Among span.first (places_of p)
  place_in span p (inl here) = inl (sym here)
  place_in span p (inr behind) = inr (inl (sym behind))

  has_stop : (span : Span) → Contains spans span → list_any (stands_for span) stops ≡ true
  unfolding stands_for
  has_stop span has = by (is_empty_shown span) refl (reached span) refl
    where
      rest : stays span ≡ true → list_any (stands_for span) stops ≡ true
      rest is =
          any_among (stands_for span) stops span
          (among_left span (filter stays spans) (filter_map empty_at (places postings)) (filter_among stays spans span (among_of spans span has) is)) (itself span)

      by : (e : Bool) → is_empty_shown span ≡ e → (r : Bool) → reached span ≡ r → list_any (stands_for span) stops ≡ true
      by false is r gone = rest (ap (λ b. not (b && reached span)) is)
      by true is false gone = rest (ap (λ b. not (b && reached span)) is ∙ ap not gone)
      by true is true gone =
          let n = near span has gone in
          let place : Among span.first (places postings) = flat_among places_of postings n.0 span.first n.1 (place_in span n.0 n.2) in
          let found = first_some (is_empty_at span.first) spans span (among_of spans span has) (and_from _ _ is (eq-eqb span.first span.first refl)) in
          let its = first_is (is_empty_at span.first) spans found.0 found.1 in
          let parts = and_parts (is_empty_shown found.0) (found.0.first == span.first) its.1 in
          any_among (stands_for span) stops found.0
          (among_right found.0 (filter stays spans) (filter_map empty_at (places postings)) (made_among empty_at (places postings) span.first found.0 place found.1))
          (or_right (is_same span found.0) (is_empty_shown span && (is_empty_shown found.0 && span.first == found.0.first))
          (and_from _ _ is (and_from _ _ parts.0 (eq-eqb span.first found.0.first (sym (eqb-true _ _ parts.1))))))

  pub stops_stand : HaveStops spans stops
  stops_stand = all_of (λ (span : Span). list_any (stands_for span) stops ≡ true) spans has_stop

  pub stops_few : count_by reached stops ≤ count_by met spans + 2 * length postings
  stops_few =
      let both : count_by reached stops ≡ count_by reached (filter stays spans) + count_by reached (filter_map empty_at (places postings)) =
      sum_by-append (λ (span : Span). cond (reached span) 1 0) (filter stays spans) (filter_map empty_at (places postings)) in
      let first = count_filtered stays reached met spans each in
      let second = count_by-le-length reached (filter_map empty_at (places postings)) in
      let made = filter_map_less empty_at (places postings) in
      let twice = places_length postings in
      omega (arith, both, first, second, made, twice)
    where
      each : (span : Span) → Contains spans span → stays span ≡ true → reached span ≡ true → met span ≡ true
      each span has stay gone = meets span has gone (by (is_empty_shown span) (reached span) stay gone)
        where
          by : (e r : Bool) → not (e && r) ≡ true → r ≡ true → e ≡ false
          by false r stay gone = refl
          by true true stay gone = absurd (cc)
          by true false stay gone = absurd (cc)

-- The merge of two lists of items, as far as it has come.
use Rattle.std.proofs.Common.{◌≡◌, ℕ, ◌+◌, ◌<◌, ◌≤◌, true, ◌⊎◌, inl, inr, List, [], ◌∷◌, ◌++◌, length, get_or, refl, sym, subst, ap, ◌∙◌, arith}
use Rattle.std.specs.Prelude.{slice_get, Option, Some, None}
use Rattle.std.specs.List.{Contains, filter_map}
use Rattle.std.specs.List.{cons_option}
use Rattle.std.specs.Option.{unwrap_or}
use Rattle.std.proofs.lemmas.Bool.{cases_lt}
use Rattle.std.proofs.lemmas.List.Elements.{Contains-append_cases, Contains-append_left, Contains-append_right, Contains-get_or, Contains-push, Contains-push_cases, filter_map-append}
use Rattle.std.proofs.lemmas.List.Quantifiers.{all_pairs_push}
use Rattle.std.proofs.lemmas.Option.{slice_get_within, slice_get-get_or}
use Rattle.records.specs.Part.{owned_part}
use Rattle.records.specs.declared.rec.ItemAt.{ItemAt}
use Rattle.change_records.specs.declared.changes.ItemChange.{ItemChange}
use Rattle.change_records.specs.declared.changes.ItemChange.TheVariants.{Added, Removed, Altered}
use Rattle.change_records.specs.Changes.{Ascend, AreChanges, HasNone, HaveOneKey, IsChange, is_before, item_of}
use Rattle.change_records.proofs.Order.{after_apart, ascend_at, before_apart, before_trans, like_left, one_key_back}

-- a change is of the first i old items or the first j new ones
abbrev pub IsPassed : ℕ → ℕ → ItemChange → Type 0
IsPassed i j (Added at) = at < j
IsPassed i j (Removed at) = at < i
IsPassed i j (Altered was is) = was < i

-- the first items of a list stand before the last ones of another
abbrev pub AreFront : List ItemAt → List ItemAt → ℕ → ℕ → Type 0
AreFront first second i j =
    (k m : ℕ) (one other : ItemAt) → k < i → j ≤ m → slice_get first k ≡ Some one → slice_get second m ≡ Some other → is_before one other ≡ true

-- the changes of the first i old items and the first j new ones, which stand before all others
pub record IsMerged (old new : List ItemAt) (i j : ℕ) (changes : List ItemChange) : Type 0 where
  pub hold : (change : ItemChange) → Contains changes change → IsChange old new change × IsPassed i j change
  pub all : (change : ItemChange) → IsChange old new change → IsPassed i j change → Contains changes change
  pub ascend : Ascend (filter_map (item_of old new) changes)
  pub olds : AreFront old new i j
  pub news : AreFront new old j i

pub contains_none : {X : Type 0} (x : X) → Contains [] x → ⊥
contains_none x is = omega (arith, is.1)

still_passed : (i j i' j' : ℕ) (c : ItemChange) → i ≤ i' → j ≤ j' → IsPassed i j c → IsPassed i' j' c
still_passed i j i' j' (Added at) more_i more_j by = omega (arith, more_j, by)
still_passed i j i' j' (Removed at) more_i more_j by = omega (arith, more_i, by)
still_passed i j i' j' (Altered was now) more_i more_j by = omega (arith, more_i, by)

one_item : {a b : ItemAt} → Some a ≡ Some b → a ≡ b
one_item {a} is = ap (λ o. unwrap_or o a) is

-- a place that a list has is below one that it lacks
within : (items : List ItemAt) (i k : ℕ) (x : ItemAt) → slice_get items i ≡ None → slice_get items k ≡ Some x → k < i
within items i k x none at_k = elim (cases_lt k i) [
  | inl early ↦ early
  | inr late ↦
      (let small : i < length items = omega (arith, late, slice_get_within items k x at_k) in
      absurd (let both : None ≡ Some (get_or items i x) = sym none ∙ slice_get-get_or items i x small in cc))
]

-- ---- the items of changes

pub contains_more : {X : Type 0} (x : X) (xs : List X) (y : X) → Contains xs y → Contains (x ∷ xs) y
contains_more x xs y is = Contains-append_right (x ∷ []) xs y is

pub contains_first : {X : Type 0} (x : X) (xs : List X) → Contains (x ∷ xs) x
contains_first x xs = Contains-append_left (x ∷ []) xs x (Contains-push [] x)

pub only_one : {X : Type 0} (x y : X) → Contains (x ∷ []) y → x ≡ y
only_one x y is = elim (Contains-push_cases [] x y is) [ inl never ↦ absurd (contains_none y never) | inr same ↦ same ]

-- an item that is made of a list is made of one element
abbrev pub IsFromOne : {X Y : Type 0} → (X → Option Y) → List X → Y → Type 0
IsFromOne {X} h xs y = (x : X) × Contains xs x × (h x ≡ Some y)

from_more : {X Y : Type 0} (h : X → Option Y) (x : X) (xs : List X) (y : Y) → IsFromOne h xs y → IsFromOne h (x ∷ xs) y
from_more h x xs y found = (found.0, contains_more x xs found.0 found.1, found.2)

from_head : {X Y : Type 0} (h : X → Option Y) (x : X) (xs : List X) (ys : List Y) (y : Y) (o : Option Y) → h x ≡ o → (Contains ys y → IsFromOne h xs y)
    → Contains (cons_option o ys) y → IsFromOne h (x ∷ xs) y
from_head h x xs ys y None e later is = from_more h x xs y (later is)
from_head h x xs ys y (Some z) e later is = elim (Contains-append_cases (z ∷ []) ys y is) [
  | inl first ↦ (x, contains_first x xs, e ∙ ap Some (only_one z y first))
  | inr more ↦ from_more h x xs y (later more)
]

pub from_one : {X Y : Type 0} (h : X → Option Y) (xs : List X) (y : Y) → Contains (filter_map h xs) y → IsFromOne h xs y
from_one h [] y is = absurd (contains_none y is)
from_one h (x ∷ xs) y is = from_head h x xs (filter_map h xs) y (h x) refl (from_one h xs y) is

-- the item of a change that is passed stands before what all passed items stand before
item_before : (old new : List ItemAt) (i j : ℕ) (one : ItemAt)
    → ((k : ℕ) (x : ItemAt) → k < i → slice_get old k ≡ Some x → is_before x one ≡ true)
    → ((k : ℕ) (x : ItemAt) → k < j → slice_get new k ≡ Some x → is_before x one ≡ true)
    → (change : ItemChange) (x : ItemAt) → IsPassed i j change → item_of old new change ≡ Some x → is_before x one ≡ true
item_before old new i j one olds news (Added at) x passed is = news at x passed is
item_before old new i j one olds news (Removed at) x passed is = olds at x passed is
item_before old new i j one olds news (Altered was now) x passed is = olds was x passed is

-- ---- a change more

-- one change is put behind the others
pushed : (old new : List ItemAt) (i j i' j' : ℕ) (changes : List ItemChange) (change : ItemChange) (one : ItemAt) → IsMerged old new i j changes
    → IsChange old new change → item_of old new change ≡ Some one
    → ((k : ℕ) (x : ItemAt) → k < i → slice_get old k ≡ Some x → is_before x one ≡ true)
    → ((k : ℕ) (x : ItemAt) → k < j → slice_get new k ≡ Some x → is_before x one ≡ true)
    → i ≤ i' → j ≤ j' → IsPassed i' j' change
    → ((c : ItemChange) → IsChange old new c → IsPassed i' j' c → IsPassed i j c ⊎ (change ≡ c))
    → AreFront old new i' j' → AreFront new old j' i' → IsMerged old new i' j' (changes ++ change ∷ [])
pushed old new i j i' j' changes change one merged holds item olds_before news_before more_i more_j passed only olds news = record {
  hold = λ c is. elim (Contains-push_cases changes change c is) [
    | inl early ↦ (let h = merged.hold c early in (h.0, still_passed i j i' j' c more_i more_j h.1))
    | inr same ↦ subst (λ x. IsChange old new x × IsPassed i' j' x) same (holds, passed)
  ];
  all = λ c is by. elim (only c is by) [
    | inl early ↦ Contains-append_left changes (change ∷ []) c (merged.all c is early)
    | inr same ↦ subst (Contains (changes ++ change ∷ [])) same (Contains-push changes change)
  ];
  ascend =
      subst Ascend (sym (filter_map-append h changes (change ∷ []) ∙ ap (λ o. filter_map h changes ++ cons_option o []) item))
      (all_pairs_push (λ a b. is_before a b ≡ true) (filter_map h changes) one merged.ascend before_one);
  olds = olds;
  news = news;
}
  where
    h : ItemChange → Option ItemAt
    h = item_of old new

    before_one : (k : ℕ) (d : ItemAt) → k < length (filter_map h changes) → is_before (get_or (filter_map h changes) k d) one ≡ true
    before_one k d small =
        let found = from_one h changes (get_or (filter_map h changes) k d) (Contains-get_or (filter_map h changes) k d small) in
        item_before old new i j one olds_before news_before found.0 _ (merged.hold found.0 found.1).1 found.2

-- no change is put behind the others
kept : (old new : List ItemAt) (i j i' j' : ℕ) (changes : List ItemChange) → IsMerged old new i j changes → i ≤ i' → j ≤ j'
    → ((c : ItemChange) → IsChange old new c → IsPassed i' j' c → IsPassed i j c)
    → AreFront old new i' j' → AreFront new old j' i' → IsMerged old new i' j' changes
kept old new i j i' j' changes merged more_i more_j only olds news = record {
  hold = λ c is. (let h = merged.hold c is in (h.0, still_passed i j i' j' c more_i more_j h.1));
  all = λ c is by. merged.all c is (only c is by);
  ascend = merged.ascend;
  olds = olds;
  news = news;
}

-- ---- what stands before what

front_past : (first second : List ItemAt) (i j j' : ℕ) → j ≤ j' → AreFront first second i j → AreFront first second i j'
front_past first second i j j' more front k m one other small past = front k m one other small (omega (arith, more, past))

front_more : (first second : List ItemAt) (i j : ℕ) (one : ItemAt) → AreFront first second i j → slice_get first i ≡ Some one
    → ((m : ℕ) (other : ItemAt) → j ≤ m → slice_get second m ≡ Some other → is_before one other ≡ true) → AreFront first second (i + 1) j
front_more first second i j one front at_i rest k m x other small past at_k at_m = elim (cases_lt k i) [
  | inl early ↦ front k m x other early past at_k at_m
  | inr late ↦
      (let is : i ≡ k = omega (arith, late, small) in
      let same : one ≡ x = one_item (sym at_i ∙ ap (slice_get first) is ∙ at_k) in
      subst (λ y. is_before y other ≡ true) same (rest m other past at_m))
]

-- an item before the next one of a list is before all that are left of it
rest_after : (second : List ItemAt) (j : ℕ) (one : ItemAt) → Ascend second → ((other : ItemAt) → slice_get second j ≡ Some other → is_before one other ≡ true)
    → (m : ℕ) (other : ItemAt) → j ≤ m → slice_get second m ≡ Some other → is_before one other ≡ true
rest_after second j one ascend next m other past at_m = elim (cases_lt j m) [
  | inl early ↦
      (let within : j < length second = omega (arith, early, slice_get_within second m other at_m) in
      let at_j = slice_get-get_or second j other within in
      before_trans one (get_or second j other) other (next (get_or second j other) at_j) (ascend_at second ascend j m _ other early at_j at_m))
  | inr late ↦ (let is : m ≡ j = omega (arith, late, past) in next other (sym (ap (slice_get second) is) ∙ at_m))
]

-- an item of which nothing is passed in another list, and which is before the next one there, is not in it
is_alone : (second : List ItemAt) (j : ℕ) (one : ItemAt) → ((k : ℕ) (x : ItemAt) → k < j → slice_get second k ≡ Some x → is_before x one ≡ true)
    → ((m : ℕ) (x : ItemAt) → j ≤ m → slice_get second m ≡ Some x → is_before one x ≡ true) → HasNone second one
is_alone second j one front rest k other at_k same = elim (cases_lt k j) [
  | inl early ↦ after_apart one other (front k other early at_k) same
  | inr late ↦ before_apart one other (rest k other late at_k) same
]

-- ---- the steps

pub merged_old : (old new : List ItemAt) (i j : ℕ) (changes : List ItemChange) (one : ItemAt) → Ascend old → Ascend new → IsMerged old new i j changes
    → slice_get old i ≡ Some one → ((other : ItemAt) → slice_get new j ≡ Some other → is_before one other ≡ true)
    → IsMerged old new (i + 1) j (changes ++ Removed i ∷ [])
merged_old old new i j changes one sorted_old sorted_new merged at_i next =
    pushed old new i j (i + 1) j changes (Removed i) one merged (one, at_i, alone) at_i olds_before news_before (omega arith) (omega arith) (omega arith) only
    (front_more old new i j one merged.olds at_i rest)
    (front_past new old j i (i + 1) (omega arith) merged.news)
  where
    rest : (m : ℕ) (x : ItemAt) → j ≤ m → slice_get new m ≡ Some x → is_before one x ≡ true
    rest = rest_after new j one sorted_new next

    olds_before : (k : ℕ) (x : ItemAt) → k < i → slice_get old k ≡ Some x → is_before x one ≡ true
    olds_before k x small at_k = ascend_at old sorted_old k i x one small at_k at_i

    news_before : (k : ℕ) (x : ItemAt) → k < j → slice_get new k ≡ Some x → is_before x one ≡ true
    news_before k x small at_k = merged.news k i x one small (omega arith) at_k at_i

    alone : HasNone new one
    alone = is_alone new j one news_before rest

    only : (c : ItemChange) → IsChange old new c → IsPassed (i + 1) j c → IsPassed i j c ⊎ (Removed i ≡ c)
    only (Added at) is by = inl by
    only (Removed at) is by = elim (cases_lt at i) [
      | inl early ↦ inl early
      | inr late ↦ inr (let e : i ≡ at = omega (arith, late, by) in ap Removed e)
    ]
    only (Altered was now) is by = elim (cases_lt was i) [
      | inl early ↦ inl early
      | inr late ↦
          (let e : i ≡ was = omega (arith, late, by) in
          let same : is.0 ≡ one = one_item (sym is.2 ∙ ap (slice_get old) (sym e) ∙ at_i) in
          absurd (alone now is.1 is.3 (subst (λ x. HaveOneKey x is.1) same is.4)))
    ]

pub merged_new : (old new : List ItemAt) (i j : ℕ) (changes : List ItemChange) (one : ItemAt) → Ascend old → Ascend new → IsMerged old new i j changes
    → slice_get new j ≡ Some one → ((other : ItemAt) → slice_get old i ≡ Some other → is_before one other ≡ true)
    → IsMerged old new i (j + 1) (changes ++ Added j ∷ [])
merged_new old new i j changes one sorted_old sorted_new merged at_j next =
    pushed old new i j i (j + 1) changes (Added j) one merged (one, at_j, alone) at_j olds_before news_before (omega arith) (omega arith) (omega arith) only
    (front_past old new i j (j + 1) (omega arith) merged.olds)
    (front_more new old j i one merged.news at_j rest)
  where
    rest : (m : ℕ) (x : ItemAt) → i ≤ m → slice_get old m ≡ Some x → is_before one x ≡ true
    rest = rest_after old i one sorted_old next

    olds_before : (k : ℕ) (x : ItemAt) → k < i → slice_get old k ≡ Some x → is_before x one ≡ true
    olds_before k x small at_k = merged.olds k j x one small (omega arith) at_k at_j

    news_before : (k : ℕ) (x : ItemAt) → k < j → slice_get new k ≡ Some x → is_before x one ≡ true
    news_before k x small at_k = ascend_at new sorted_new k j x one small at_k at_j

    alone : HasNone old one
    alone = is_alone old i one olds_before rest

    only : (c : ItemChange) → IsChange old new c → IsPassed i (j + 1) c → IsPassed i j c ⊎ (Added j ≡ c)
    only (Added at) is by = elim (cases_lt at j) [
      | inl early ↦ inl early
      | inr late ↦ inr (let e : j ≡ at = omega (arith, late, by) in ap Added e)
    ]
    only (Removed at) is by = inl by
    only (Altered was now) is by = inl by

-- ---- two items of one key

-- what holds of two items of one key that come next
record IsPair (old new : List ItemAt) (i j : ℕ) (one other : ItemAt) : Type 0 where
  pub at_i : slice_get old i ≡ Some one
  pub at_j : slice_get new j ≡ Some other
  pub same : HaveOneKey one other

pair_olds : (old new : List ItemAt) (i j : ℕ) (one other : ItemAt) → Ascend new → AreFront old new i j → IsPair old new i j one other → AreFront old new (i + 1) (j + 1)
pair_olds old new i j one other sorted front two =
    front_more old new i (j + 1) one (front_past old new i j (j + 1) (omega arith) front) two.at_i
    (λ m x past at_m. like_left one other x two.same (ascend_at new sorted j m other x (omega (arith, past)) two.at_j at_m))

-- no change but an alteration of both is passed by a step over two items of one key
pair_only : (old new : List ItemAt) (i j : ℕ) (changes : List ItemChange) (one other : ItemAt) → Ascend new → IsMerged old new i j changes
    → IsPair old new i j one other → (c : ItemChange) → IsChange old new c → IsPassed (i + 1) (j + 1) c → IsPassed i j c ⊎ (Altered i j ≡ c)
pair_only old new i j changes one other sorted merged two (Added at) is by = elim (cases_lt at j) [
  | inl early ↦ inl early
  | inr late ↦
      (let e : j ≡ at = omega (arith, late, by) in
      let same : other ≡ is.0 = one_item (sym two.at_j ∙ ap (slice_get new) e ∙ is.1) in
      absurd (is.2 i one two.at_i (subst (λ x. HaveOneKey x one) same (one_key_back one other two.same))))
]
pair_only old new i j changes one other sorted merged two (Removed at) is by = elim (cases_lt at i) [
  | inl early ↦ inl early
  | inr late ↦
      (let e : i ≡ at = omega (arith, late, by) in
      let same : one ≡ is.0 = one_item (sym two.at_i ∙ ap (slice_get old) e ∙ is.1) in
      absurd (is.2 j other two.at_j (subst (λ x. HaveOneKey x other) same two.same)))
]
pair_only old new i j changes one other sorted merged two (Altered was now) is by = elim (cases_lt was i) [
  | inl early ↦ inl early
  | inr late ↦
      (let e : i ≡ was = omega (arith, late, by) in
      let mine : is.0 ≡ one = one_item (sym is.2 ∙ ap (slice_get old) (sym e) ∙ two.at_i) in
      let same : HaveOneKey one is.1 = subst (λ x. HaveOneKey x is.1) mine is.4 in
      let e' : j ≡ now = its_place now is.1 is.3 same in
      inr (ap (λ x. Altered x j) e ∙ ap (Altered was) e'))
]
  where
    its_place : (now : ℕ) (x : ItemAt) → slice_get new now ≡ Some x → HaveOneKey one x → j ≡ now
    its_place now x at_now same = elim (cases_lt now j) [
      | inl early ↦ absurd (after_apart one x (merged.news now i x one early (omega arith) at_now two.at_i) same)
      | inr late ↦ elim (cases_lt j now) [
        | inl past ↦ absurd (before_apart one x (like_left one other x two.same (ascend_at new sorted j now other x past two.at_j at_now)) same)
        | inr not_past ↦ omega (arith, late, not_past)
      ]
    ]

pair_back : (old new : List ItemAt) (i j : ℕ) (one other : ItemAt) → IsPair old new i j one other → IsPair new old j i other one
pair_back old new i j one other two = record { at_i = two.at_j; at_j = two.at_i; same = one_key_back one other two.same }

pub merged_altered : (old new : List ItemAt) (i j : ℕ) (changes : List ItemChange) (one other : ItemAt) → Ascend old → Ascend new → IsMerged old new i j changes
    → slice_get old i ≡ Some one → slice_get new j ≡ Some other → HaveOneKey one other → (owned_part one.part ≡ owned_part other.part → ⊥)
    → IsMerged old new (i + 1) (j + 1) (changes ++ Altered i j ∷ [])
merged_altered old new i j changes one other sorted_old sorted_new merged at_i at_j same differ =
    pushed old new i j (i + 1) (j + 1) changes (Altered i j) one merged (one, other, at_i, at_j, same, differ) at_i
    (λ k x small at_k. ascend_at old sorted_old k i x one small at_k at_i)
    (λ k x small at_k. merged.news k i x one small (omega arith) at_k at_i)
    (omega arith) (omega arith) (omega arith) (pair_only old new i j changes one other sorted_new merged two)
    (pair_olds old new i j one other sorted_new merged.olds two)
    (pair_olds new old j i other one sorted_old merged.news (pair_back old new i j one other two))
  where
    two : IsPair old new i j one other
    two = record { at_i = at_i; at_j = at_j; same = same }

pub merged_same : (old new : List ItemAt) (i j : ℕ) (changes : List ItemChange) (one other : ItemAt) → Ascend old → Ascend new → IsMerged old new i j changes
    → slice_get old i ≡ Some one → slice_get new j ≡ Some other → HaveOneKey one other → owned_part one.part ≡ owned_part other.part
    → IsMerged old new (i + 1) (j + 1) changes
merged_same old new i j changes one other sorted_old sorted_new merged at_i at_j same equal =
    kept old new i j (i + 1) (j + 1) changes merged (omega arith) (omega arith)
    (λ c is by. elim (pair_only old new i j changes one other sorted_new merged two c is by) [
      | inl early ↦ early
      | inr this ↦ absurd (not_altered (subst (IsChange old new) (sym this) is))
    ])
    (pair_olds old new i j one other sorted_new merged.olds two)
    (pair_olds new old j i other one sorted_old merged.news (pair_back old new i j one other two))
  where
    two : IsPair old new i j one other
    two = record { at_i = at_i; at_j = at_j; same = same }

    not_altered : IsChange old new (Altered i j) → ⊥
    not_altered is =
        let mine : one ≡ is.0 = one_item (sym at_i ∙ is.2) in
        let its : other ≡ is.1 = one_item (sym at_j ∙ is.3) in
        is.5 (ap (λ x. owned_part x.part) (sym mine) ∙ equal ∙ ap (λ x. owned_part x.part) its)

-- ---- the end

pub merged_all : (old new : List ItemAt) (i j : ℕ) (changes : List ItemChange) → IsMerged old new i j changes → slice_get old i ≡ None → slice_get new j ≡ None
    → AreChanges old new changes
merged_all old new i j changes merged no_old no_new = record {
  hold = λ c is. (merged.hold c is).0;
  all = λ c is. merged.all c is (passed c is);
  ascend = merged.ascend;
}
  where
    passed : (c : ItemChange) → IsChange old new c → IsPassed i j c
    passed (Added at) is = within new j at is.0 no_new is.1
    passed (Removed at) is = within old i at is.0 no_old is.1
    passed (Altered was now) is = within old i was is.0 no_old is.2

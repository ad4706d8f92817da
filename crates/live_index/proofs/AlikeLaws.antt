-- The orders keep saying the same as the table when a pair is added, takes the place of another, or goes away.
use Rattle.std.proofs.Common.{◌≡◌, ℕ, Bool, true, false, cond, ◌&&◌, refl, sym, ap, ◌∙◌, subst}
use Rattle.std.specs.Prelude.{◌==◌, Option, Some, None, IfSome, is_some}
use Rattle.std.proofs.lemmas.Bool.{eqb-true}
use Rattle.std.proofs.Math.Path.{fun_ext}
use Rattle.verdict.proofs.Answers.{some_is}
use Rattle.verdict.proofs.Truth.{and_left, and_right, cond_within}
use Rattle.verdict.specs.OnDisk.{key_same}
use Rattle.verdict.specs.declared.key.Key.{Key}
use Rattle.live_index.specs.declared.live.Live.{Live}
use Rattle.live_index.specs.declared.orders.Orders.{Orders}
use Rattle.live_index.specs.declared.places.ByAddress.{ByAddress}
use Rattle.live_index.specs.declared.places.ByFirst.{ByFirst}
use Rattle.live_index.specs.Orders.{AreAdded, AreAlike, AreKept, AreMoved, AreTaken, IsFirstFrom, IsNextKey, first_at, has_address, has_key, is_address_of, is_key_of, with_first}
use Rattle.live_index.specs.Pairs.{IsLeastFrom, IsNextFirst, Pairs, comes_before, has_first, with_pair, without_pair}

-- ---- one place of a table

-- a table has one pair under one tree and address
pub one_place : (p : Pairs) (t a t' a' : ℕ) → t ≡ t' → a ≡ a' → p t a ≡ p t' a'
one_place p t a t' a' e f = ap (λ x. p x a) e ∙ ap (p t') f

pub tested_place : (p : Pairs) (t a t' a' : ℕ) → (t == t' && a == a') ≡ true → p t' a' ≡ p t a
tested_place p t a t' a' e = sym (one_place p t a t' a' (eqb-true _ _ (and_left _ _ e)) (eqb-true _ _ (and_right (t == t') _ e)))

-- ---- each pair under its own tree and address

abbrev pub AreOwn : Pairs → Type 0
AreOwn p = (t a : ℕ) (live : Live) → p t a ≡ Some live → (live.tree ≡ t) × (live.address ≡ a)

own_with : (p : Pairs) (new : Live) → AreOwn p → AreOwn (with_pair p new)
own_with p new own t a live is =
    elim (new.tree == t && new.address == a) as (λ b. (new.tree == t && new.address == a) ≡ b → cond b (Some new) (p t a) ≡ Some live → (live.tree ≡ t) × (live.address ≡ a)) [
      | true ↦ λ e f.
          subst (λ x. (x.tree ≡ t) × (x.address ≡ a)) (some_is new live f) (eqb-true _ _ (and_left _ _ e), eqb-true _ _ (and_right (new.tree == t) _ e))
      | false ↦ λ e f. own t a live f
    ] refl is

own_without : (p : Pairs) (t' a' : ℕ) → AreOwn p → AreOwn (without_pair p t' a')
own_without p t' a' own t a live is =
    elim (t' == t && a' == a) as (λ b. cond b None (p t a) ≡ Some live → (live.tree ≡ t) × (live.address ≡ a)) [
      | true ↦ λ f. cc
      | false ↦ λ f. own t a live f
    ] is

-- ---- tests of places

address_added : (b c : Bool) (new : Live) (y : Option Live) → cond (b && c) true (is_some y) ≡ is_some (cond (c && b) (Some new) y)
address_added = elim [ true ↦ elim [ true ↦ λ new y. refl | false ↦ λ new y. refl ] | false ↦ elim [ true ↦ λ new y. refl | false ↦ λ new y. refl ] ]

address_taken : (b c : Bool) (y : Option Live) → cond (b && c) false (is_some y) ≡ is_some (cond (c && b) None y)
address_taken = elim [ true ↦ elim [ true ↦ λ y. refl | false ↦ λ y. refl ] | false ↦ elim [ true ↦ λ y. refl | false ↦ λ y. refl ] ]

first_with : (level : ℕ) (key : Key) (b : Bool) (new : Live) (y : Option Live)
    → with_first level key (cond b (Some new) y) ≡ cond b (cond (new.level == level && key_same new.first key) (Some new) None) (with_first level key y)
first_with level key = elim [ true ↦ λ new y. refl | false ↦ λ new y. refl ]

first_without : (level : ℕ) (key : Key) (b : Bool) (y : Option Live) → with_first level key (cond b None y) ≡ cond b None (with_first level key y)
first_without level key = elim [ true ↦ λ y. refl | false ↦ λ y. refl ]

key_added : {A : Type 0} (t l k a : Bool) (v n x : A) → ((t && a) ≡ true → x ≡ n) → cond (t && (l && (k && a))) v x ≡ cond (t && a) (cond (l && k) v n) x
key_added = elim [
  | true ↦ elim [
    | true ↦ elim [ true ↦ elim [ true ↦ λ v n x h. refl | false ↦ λ v n x h. refl ] | false ↦ elim [ true ↦ λ v n x h. h refl | false ↦ λ v n x h. refl ] ]
    | false ↦ elim [ true ↦ elim [ true ↦ λ v n x h. h refl | false ↦ λ v n x h. refl ] | false ↦ elim [ true ↦ λ v n x h. h refl | false ↦ λ v n x h. refl ] ]
  ]
  | false ↦ λ l k a v n x h. refl
]

key_taken : {A : Type 0} (t l k a : Bool) (v n x : A) → ((t && a) ≡ true → x ≡ cond (l && k) v n) → cond (t && (l && (k && a))) n x ≡ cond (t && a) n x
key_taken = elim [
  | true ↦ elim [
    | true ↦ elim [ true ↦ elim [ true ↦ λ v n x h. refl | false ↦ λ v n x h. refl ] | false ↦ elim [ true ↦ λ v n x h. h refl | false ↦ λ v n x h. refl ] ]
    | false ↦ elim [ true ↦ elim [ true ↦ λ v n x h. h refl | false ↦ λ v n x h. refl ] | false ↦ elim [ true ↦ λ v n x h. h refl | false ↦ λ v n x h. refl ] ]
  ]
  | false ↦ λ l k a v n x h. refl
]

key_moved : {A : Type 0} (t l k a l' k' : Bool) (v v' n x : A) → ((t && a) ≡ true → x ≡ cond (l' && k') v' n)
    → cond (t && (l && (k && a))) v (cond (t && (l' && (k' && a))) n x) ≡ cond (t && a) (cond (l && k) v n) x
key_moved t l k a l' k' v v' n x h =
    ap (cond (t && (l && (k && a))) v) (key_taken t l' k' a v' n x h)
    ∙ key_added t l k a v n (cond (t && a) n x) (λ e. ap (λ b. cond b n x) e)
    ∙ cond_within (t && a) (cond (l && k) v n) n x

-- ---- the orders say the same as the table

pub alike_added : (p : Pairs) (o n : Orders) (new : Live) → AreAlike p o → p new.tree new.address ≡ None → AreAdded o n new → AreAlike (with_pair p new) n
alike_added p o n new alike none added = record {
  own = own_with p new alike.own;
  addresses = λ place.
      added.addresses place
      ∙ ap (cond (is_address_of new place) true) (alike.addresses place)
      ∙ address_added (new.address == place.address) (new.tree == place.tree) new (p place.tree place.address);
  keys = λ place.
      added.keys place
      ∙ ap (cond (is_key_of new place) (Some new)) (alike.keys place)
      ∙ key_added (new.tree == place.tree) (new.level == place.level) (key_same new.first place.first) (new.address == place.address) (Some new) None _
      (λ e. ap (with_first place.level place.first) (tested_place p new.tree new.address place.tree place.address e ∙ none))
      ∙ sym (first_with place.level place.first (new.tree == place.tree && new.address == place.address) new (p place.tree place.address));
}

still_some : (b : Bool) (y : Option Live) (new : Live) → (b ≡ true → is_some y ≡ true) → is_some y ≡ is_some (cond b (Some new) y)
still_some = elim [ true ↦ λ y new h. h refl | false ↦ λ y new h. refl ]

pub alike_moved : (p : Pairs) (o n : Orders) (was new : Live) → AreAlike p o → p new.tree new.address ≡ Some was → AreMoved o n was new → AreAlike (with_pair p new) n
alike_moved p o n was new alike is moved =
    let own : (was.tree ≡ new.tree) × (was.address ≡ new.address) = alike.own new.tree new.address was is in
    let named : (place : ByFirst) → is_key_of was place ≡ (new.tree == place.tree && (was.level == place.level && (key_same was.first place.first && new.address == place.address))) =
    λ place.
    ap (λ t. t == place.tree && (was.level == place.level && (key_same was.first place.first && was.address == place.address))) own.0
    ∙ ap (λ a. new.tree == place.tree && (was.level == place.level && (key_same was.first place.first && a == place.address))) own.1 in
    record {
      own = own_with p new alike.own;
      addresses = λ place.
          moved.addresses place
          ∙ alike.addresses place
          ∙ still_some (new.tree == place.tree && new.address == place.address) (p place.tree place.address) new
          (λ e. ap is_some (tested_place p new.tree new.address place.tree place.address e ∙ is));
      keys = λ place.
          moved.keys place
          ∙ ap (λ b. cond (is_key_of new place) (Some new) (cond b None (first_at o place))) (named place)
          ∙ ap (λ x. cond (is_key_of new place) (Some new) (cond (new.tree == place.tree && (was.level == place.level && (key_same was.first place.first && new.address == place.address))) None x)) (alike.keys place)
          ∙ key_moved (new.tree == place.tree) (new.level == place.level) (key_same new.first place.first) (new.address == place.address) (was.level == place.level) (key_same was.first place.first) (Some new) (Some was) None _
          (λ e. ap (with_first place.level place.first) (tested_place p new.tree new.address place.tree place.address e ∙ is))
          ∙ sym (first_with place.level place.first (new.tree == place.tree && new.address == place.address) new (p place.tree place.address));
    }

pub alike_taken : (p : Pairs) (o n : Orders) (t a : ℕ) (live : Live) → AreAlike p o → p t a ≡ Some live → AreTaken o n live → AreAlike (without_pair p t a) n
alike_taken p o n t a live alike is taken =
    let own : (live.tree ≡ t) × (live.address ≡ a) = alike.own t a live is in
    record {
      own = own_without p t a alike.own;
      addresses = λ place.
          taken.addresses place
          ∙ ap (cond (is_address_of live place) false) (alike.addresses place)
          ∙ address_taken (live.address == place.address) (live.tree == place.tree) (p place.tree place.address)
          ∙ ap (λ x. is_some (cond (x == place.tree && live.address == place.address) None (p place.tree place.address))) own.0
          ∙ ap (λ x. is_some (cond (t == place.tree && x == place.address) None (p place.tree place.address))) own.1;
      keys = λ place.
          taken.keys place
          ∙ ap (cond (is_key_of live place) None) (alike.keys place)
          ∙ key_taken (live.tree == place.tree) (live.level == place.level) (key_same live.first place.first) (live.address == place.address) (Some live) None _
          (λ e. ap (with_first place.level place.first) (tested_place p live.tree live.address place.tree place.address e ∙ one_place p live.tree live.address t a own.0 own.1 ∙ is))
          ∙ ap (λ x. cond (x == place.tree && live.address == place.address) None (with_first place.level place.first (p place.tree place.address))) own.0
          ∙ ap (λ x. cond (t == place.tree && x == place.address) None (with_first place.level place.first (p place.tree place.address))) own.1
          ∙ sym (first_without place.level place.first (t == place.tree && a == place.address) (p place.tree place.address));
    }

pub alike_kept : (p : Pairs) (o n : Orders) → AreAlike p o → AreKept o n → AreAlike p n
alike_kept p o n alike kept = record {
  own = alike.own;
  addresses = λ place. kept.addresses place ∙ alike.addresses place;
  keys = λ place. kept.keys place ∙ alike.keys place;
}

-- ---- a table after a change that is undone

cond_twice : {A : Type 0} (b : Bool) (x y z : A) → (b ≡ true → z ≡ x) → cond b x (cond b y z) ≡ z
cond_twice = elim [ true ↦ λ x y z h. sym (h refl) | false ↦ λ x y z h. refl ]

pub undone : (p : Pairs) (new : Live) → p new.tree new.address ≡ None → without_pair (with_pair p new) new.tree new.address ≡ p
undone p new none = fun_ext (λ t. fun_ext (λ a.
    cond_twice (new.tree == t && new.address == a) None (Some new) (p t a) (λ e. tested_place p new.tree new.address t a e ∙ none)))

pub put_back : (p : Pairs) (was new : Live) → was.tree ≡ new.tree → was.address ≡ new.address → p new.tree new.address ≡ Some was → with_pair (with_pair p new) was ≡ p
put_back p was new tree address is = fun_ext (λ t. fun_ext (λ a.
    ap (λ x. cond (x == t && was.address == a) (Some was) (with_pair p new t a)) tree
    ∙ ap (λ x. cond (new.tree == t && x == a) (Some was) (with_pair p new t a)) address
    ∙ cond_twice (new.tree == t && new.address == a) (Some was) (Some new) (p t a) (λ e. tested_place p new.tree new.address t a e ∙ is)))

-- ---- what the orders find is what the table has

none_if : (y : Option Live) → is_some y ≡ false → y ≡ None
none_if None e = refl
none_if (Some live) e = cc

pub none_least : (p : Pairs) (o : Orders) (address tree : ℕ) → AreAlike p o → IsFirstFrom o address tree None → IsLeastFrom p address tree None
none_least p o address tree alike none = λ a t low.
    none_if (p t a) (sym (alike.addresses (record { address = a; tree = t })) ∙ none (record { address = a; tree = t }) low)

pub some_least : (p : Pairs) (o : Orders) (address tree : ℕ) (place : ByAddress) (r : Option Live) → AreAlike p o → IsFirstFrom o address tree (Some place)
    → p place.tree place.address ≡ r → IsLeastFrom p address tree r
some_least p o address tree place None alike first is =
    absurd (let had : true ≡ false = sym first.0 ∙ alike.addresses place ∙ ap is_some is in cc)
some_least p o address tree place (Some live) alike first is =
    let own : (live.tree ≡ place.tree) × (live.address ≡ place.address) = alike.own place.tree place.address live is in (
      one_place p live.tree live.address place.tree place.address own.0 own.1 ∙ is,
      ap (λ a. comes_before a live.tree address tree) own.1 ∙ ap (λ t. comes_before place.address t address tree) own.0 ∙ first.1,
      λ a t low before.
          let lower : comes_before a t place.address place.tree ≡ true =
          ap (λ x. comes_before a t x place.tree) (sym own.1) ∙ ap (λ x. comes_before a t live.address x) (sym own.0) ∙ before in
          none_if (p t a) (sym (alike.addresses (record { address = a; tree = t })) ∙ first.2 (record { address = a; tree = t }) low lower),
    )

some_unless : (b : Bool) (live : Live) → is_some (cond b (Some live) None) ≡ b
some_unless = elim [ true ↦ λ live. refl | false ↦ λ live. refl ]

first_had : (level : ℕ) (key : Key) (y : Option Live) → is_some (with_first level key y) ≡ has_first level key y
first_had level key None = refl
first_had level key (Some live) = some_unless (has_first level key (Some live)) live

-- whether the order by first key has a place
key_has : (p : Pairs) (o : Orders) (place : ByFirst) → AreAlike p o → has_key o place ≡ has_first place.level place.first (p place.tree place.address)
key_has p o place alike = ap is_some (alike.keys place) ∙ first_had place.level place.first (p place.tree place.address)

pub next_found : (p : Pairs) (o : Orders) (tree level : ℕ) (key : Key) (r : Option Key) → AreAlike p o → IsNextKey o tree level key r → IsNextFirst p tree level key r
next_found p o tree level key None alike none = λ a k h. sym (key_has p o (record { tree = tree; level = level; first = k; address = a }) alike) ∙ none a k h
next_found p o tree level key (Some next) alike found = (
  found.0,
  (found.1.0, sym (key_has p o (record { tree = tree; level = level; first = next; address = found.1.0 }) alike) ∙ found.1.1),
  λ a k h before. sym (key_has p o (record { tree = tree; level = level; first = k; address = a }) alike) ∙ found.2 a k h before,
)

-- ---- the empty table

pub no_pairs_alike : (p : Pairs) (o : Orders) → ((t a : ℕ) → p t a ≡ None) → ((place : ByAddress) → has_address o place ≡ false) → ((place : ByFirst) → first_at o place ≡ None) → AreAlike p o
no_pairs_alike p o none addresses keys = record {
  own = λ t a live is. absurd (let no : None ≡ Some live = sym (none t a) ∙ is in cc);
  addresses = λ place. addresses place ∙ sym (ap is_some (none place.tree place.address));
  keys = λ place. keys place ∙ sym (ap (with_first place.level place.first) (none place.tree place.address));
}

-- ---- a pair that is found stands under its own tree and address

pub own_found : (p : Pairs) (o : Orders) (t a : ℕ) (r : Option Live) → AreAlike p o → r ≡ p t a → IfSome r (λ live. (live.tree ≡ t) × (live.address ≡ a))
own_found p o t a None alike is = tt
own_found p o t a (Some live) alike is = alike.own t a live (sym is)

-- Going through the pairs of a table at some addresses.
use Rattle.std.proofs.Common.{◌≡◌, ℕ, ◌+◌, ◌*◌, ◌-◌, ◌<◌, ◌≤◌, ◌^◌, Bool, true, false, ◌&&◌, nat_lt, cond, List, [], ◌∷◌, length, inl, inr, refl, sym, ap, subst, arith}
use Rattle.std.specs.Prelude.{Option, Some, None, is_some}
use Rattle.std.specs.List.{AllByRecursion}
use Rattle.std.proofs.lemmas.Bool.Decides.{nat_tests}
use Rattle.std.proofs.lemmas.Map.Keys.{IsDistinct-cons}
use Rattle.verdict.proofs.Truth.{and_left, and_right, and_true, decided, never}
use Rattle.live_index.specs.declared.live.Live.{Live}
use Rattle.live_index.specs.Pairs.{Pairs, comes_before}
use Rattle.touched_blocks.specs.declared.marks.Marks.{Marks}
use Rattle.touched_blocks.specs.declared.marks.PairPlace.{PairPlace}
use Rattle.touched_blocks.specs.Going.{AllPass, AreFound, AreGone, AreLooks, IsFirst, IsNext, is_passed, met, reached, same_pair}
use Rattle.touched_blocks.specs.Marking.{AreMarked, AreMarkedFrom}
use Rattle.touched_blocks.specs.Marks.{Marked, count_of, is_pair, marked_by, no_mark, pair_place}
use Rattle.touched_blocks.specs.OneTree.{chosen, in_chosen, is_chosen}
use Rattle.touched_blocks.specs.Spots.{lies_between}
use Rattle.touched_blocks.proofs.Choosing.{chosen_stands, chosen_there, there_chosen}
use Rattle.touched_blocks.proofs.Marking.{marked_then, marked_as, marked_none, same_address, same_tree}

no_pair : (o : Option Live) → o ≡ None → is_some o ≡ true → ⊥
no_pair o none some = cc

from_range : (from last a : ℕ) → lies_between from last a ≡ true → from ≤ a
from_range from last a in_range = grind (arith, nat_tests)

below_range : (from last a : ℕ) → lies_between from last a ≡ true → a ≤ last
below_range from last a in_range = grind (arith, nat_tests)

inside : (from last a : ℕ) → from ≤ a → a ≤ last → lies_between from last a ≡ true
inside from last a low high = grind (arith, nat_tests)

itself : (live : Live) → is_pair live.tree live.address live.tree live.address ≡ true
itself live = grind (arith, nat_tests)

-- ---- cursors

-- behind a pair there is nothing before what is behind it
between : (live : Live) (next : Option (ℕ × ℕ)) (t a : ℕ) → IsNext live next → t < 2 ^ 64 → a < 2 ^ 64 → is_passed next t a ≡ true → comes_before a t live.address live.tree ≡ false
    → is_pair live.tree live.address t a ≡ true
between live None t a last small short before not_below =
    let full : live.tree ≡ 18446744073709551615 = last.0 in
    let high : live.address ≡ 18446744073709551615 = last.1 in
    grind (arith, nat_tests)
between live (Some (address, tree)) t a (inl behind) small short before not_below =
    let full : live.tree ≡ 18446744073709551615 = behind.0 in
    let next : address ≡ live.address + 1 = behind.1 in
    let first : tree ≡ 0 = behind.2 in
    grind (arith, nat_tests)
between live (Some (address, tree)) t a (inr behind) small short before not_below =
    let same : address ≡ live.address = behind.0 in
    let next : tree ≡ live.tree + 1 = behind.1 in
    grind (arith, nat_tests)

-- what a cursor has passed, and the pair that it comes to, the next one has passed
later : (live : Live) (at next : Option (ℕ × ℕ)) (t a : ℕ) → IsNext live next → is_passed at live.tree live.address ≡ false → is_passed at t a ≡ true → is_passed next t a ≡ true
later live at None t a behind low before = refl
later live None (Some next) t a behind low before = cc
later live (Some (old_address, old_tree)) (Some (address, tree)) t a (inl behind) low before =
    let next : address ≡ live.address + 1 = behind.1 in
    grind (arith, nat_tests)
later live (Some (old_address, old_tree)) (Some (address, tree)) t a (inr behind) low before =
    let same : address ≡ live.address = behind.0 in
    let next : tree ≡ live.tree + 1 = behind.1 in
    grind (arith, nat_tests)

itself_passed : (live : Live) (next : Option (ℕ × ℕ)) → IsNext live next → is_passed next live.tree live.address ≡ true
itself_passed live None behind = refl
itself_passed live (Some (address, tree)) (inl behind) =
    let next : address ≡ live.address + 1 = behind.1 in
    grind (arith, nat_tests)
itself_passed live (Some (address, tree)) (inr behind) =
    let same : address ≡ live.address = behind.0 in
    let next : tree ≡ live.tree + 1 = behind.1 in
    grind (arith, nat_tests)

-- no pair that a cursor has still to pass lies before an address
abbrev pub StandsFrom : ℕ → Option (ℕ × ℕ) → Type 0
StandsFrom from at = (t a : ℕ) → is_passed at t a ≡ false → from ≤ a

low_behind : (live : Live) (next : Option (ℕ × ℕ)) (from : ℕ) → IsNext live next → from ≤ live.address → StandsFrom from next
low_behind live None from behind low t a h = cc
low_behind live (Some (address, tree)) from (inl behind) low t a h =
    let next : address ≡ live.address + 1 = behind.1 in grind (arith, nat_tests)
low_behind live (Some (address, tree)) from (inr behind) low t a h =
    let same : address ≡ live.address = behind.0 in grind (arith, nat_tests)

-- a cursor that has come to an address
reached_gone : (cursor : Option (ℕ × ℕ)) (from t a : ℕ) → from ≤ a → is_passed (reached cursor from) t a ≡ true → is_passed cursor t a ≡ true
reached_gone None from t a low h = refl
reached_gone (Some (address, tree)) from t a low h = by (nat_lt address from) h
  where
    by : (b : Bool) → is_passed (cond b (Some (from, 0)) (Some (address, tree))) t a ≡ true → comes_before a t address tree ≡ true
    by true h = grind (arith, nat_tests)
    by false h = h

reached_on : (cursor : Option (ℕ × ℕ)) (from t a : ℕ) → is_passed cursor t a ≡ true → is_passed (reached cursor from) t a ≡ true
reached_on None from t a h = refl
reached_on (Some (address, tree)) from t a h = by (nat_lt address from) refl
  where
    by : (b : Bool) → nat_lt address from ≡ b → is_passed (cond b (Some (from, 0)) (Some (address, tree))) t a ≡ true
    by true is = grind (arith, nat_tests)
    by false is = h

reached_low : (cursor : Option (ℕ × ℕ)) (from : ℕ) → StandsFrom from (reached cursor from)
reached_low None from t a h = cc
reached_low (Some (address, tree)) from t a h = by (nat_lt address from) refl h
  where
    by : (b : Bool) → nat_lt address from ≡ b → is_passed (cond b (Some (from, 0)) (Some (address, tree))) t a ≡ false → from ≤ a
    by true is low = grind (arith, nat_tests)
    by false is low = grind (arith, nat_tests)

-- how far a cursor may still go
abbrev pub room : Option (ℕ × ℕ) → ℕ
room None = 0
room (Some next) = 18446744073709551616 * (18446744073709551616 - next.0) + (18446744073709551616 - next.1) + 1

-- ---- pairs that were found

all_kept : (old new : Marked) (from to : Option (ℕ × ℕ)) (places : List PairPlace) → ((t a : ℕ) → old t a ≡ true → new t a ≡ true)
    → ((t a : ℕ) → is_passed from t a ≡ true → is_passed to t a ≡ true)
    → AllByRecursion (λ place. (old place.tree place.address ≡ true) × (is_passed from place.tree place.address ≡ true)) places
    → AllByRecursion (λ place. (new place.tree place.address ≡ true) × (is_passed to place.tree place.address ≡ true)) places
all_kept old new from to [] kept on all = tt
all_kept old new from to (place ∷ places) kept on all =
    ((kept place.tree place.address all.0.0, on place.tree place.address all.0.1), all_kept old new from to places kept on all.1)

found_kept : (old new : Marked) (from to : Option (ℕ × ℕ)) (n : ℕ) → ((t a : ℕ) → old t a ≡ true → new t a ≡ true)
    → ((t a : ℕ) → is_passed from t a ≡ true → is_passed to t a ≡ true) → AreFound old from n → AreFound new to n
found_kept old new from to n kept on found = record {
  places = found.places;
  many = found.many;
  apart = found.apart;
  all = all_kept old new from to found.places kept on found.all;
}

-- a pair that a cursor has not passed is none of those that it has
other_places : (marked : Marked) (at : Option (ℕ × ℕ)) (live : Live) (places : List PairPlace) → is_passed at live.tree live.address ≡ false
    → AllByRecursion (λ place. (marked place.tree place.address ≡ true) × (is_passed at place.tree place.address ≡ true)) places
    → AllByRecursion (λ place. same_pair (pair_place live.tree live.address) place ≡ false) places
other_places marked at live [] low all = tt
other_places marked at live (place ∷ places) low all =
    (other (is_pair live.tree live.address place.tree place.address) refl, other_places marked at live places low all.1)
  where
    other : (b : Bool) → is_pair live.tree live.address place.tree place.address ≡ b → is_pair live.tree live.address place.tree place.address ≡ false
    other false is = is
    other true is = absurd (never (is_passed at place.tree place.address) all.0.1
        (subst (λ x. is_passed at x place.address ≡ false) (same_tree live.tree live.address place.tree place.address is)
        (subst (λ x. is_passed at live.tree x ≡ false) (same_address live.tree live.address place.tree place.address is) low)))

found_more : (old new : Marked) (at next : Option (ℕ × ℕ)) (live : Live) (n : ℕ) → ((t a : ℕ) → old t a ≡ true → new t a ≡ true) → IsNext live next
    → is_passed at live.tree live.address ≡ false → new live.tree live.address ≡ true → AreFound old at n → AreFound new next (n + 1)
found_more old new at next live n kept behind low is found = record {
  places = pair_place live.tree live.address ∷ found.places;
  many = let many : length found.places ≡ n = found.many in omega arith;
  apart = IsDistinct-cons same_pair (pair_place live.tree live.address) found.places (other_places old at live found.places low found.all) found.apart;
  all = ((is, itself_passed live next behind), all_kept old new at next found.places kept (λ t a h. later live at next t a behind low h) found.all);
}

-- ---- one range

-- how far a range is gone through
pub record AreOnTheWay (pairs : Pairs) (only : Option ℕ) (test : ℕ → Bool) (from last : ℕ) (cursor at : Option (ℕ × ℕ)) (before now : ℕ) (old new : Marks) : Type 0 where
  pub marks : AreMarkedFrom pairs no_mark (in_chosen only (λ a. lies_between from last a && test a)) (marked_by old) (marked_by new)
  pub gone : AreGone (chosen only pairs) test from cursor (marked_by old) → AreGone (chosen only pairs) test from at (marked_by new)
  pub low : StandsFrom from at
  pub looks : AllPass (chosen only pairs) (λ a. lies_between from last a) test → AreLooks before now old new cursor at 0

pub way_start : (pairs : Pairs) (only : Option ℕ) (test : ℕ → Bool) (from last : ℕ) (cursor at : Option (ℕ × ℕ)) (before : ℕ) (old : Marks) → at ≡ reached cursor from
    → AreOnTheWay pairs only test from last cursor at before before old old
way_start pairs only test from last cursor at before old is = subst (λ x. AreOnTheWay pairs only test from last cursor x before before old old) (sym is) (record {
  marks = marked_none pairs no_mark (in_chosen only (λ a. lies_between from last a && test a)) (marked_by old) (λ t a h. nothing h);
  gone = λ gone t a small short low passed passes some. gone t a small short low (reached_gone cursor from t a low passed) passes some;
  low = reached_low cursor from;
  looks = λ all n found. (n, found_kept (marked_by old) (marked_by old) cursor (reached cursor from) n (λ t a h. h) (λ t a h. reached_on cursor from t a h) found, omega arith);
})
  where
    nothing : false ≡ true → ⊥
    nothing h = cc

pub way_more : (pairs : Pairs) (only : Option ℕ) (test : ℕ → Bool) (from last : ℕ) (cursor at next : Option (ℕ × ℕ)) (live : Live) (before now looked after : ℕ) (old mid new : Marks)
    → AreOnTheWay pairs only test from last cursor at before now old mid → IsFirst (chosen only pairs) at (Some live) → live.address ≤ last → live.tree < 2 ^ 64 → live.address < 2 ^ 64
    → looked ≤ now + 1 → AreMarked pairs (met test live) (marked_by mid) (marked_by new) → after + count_of mid ≤ looked + count_of new → IsNext live next
    → AreOnTheWay pairs only test from last cursor next before after old new
way_more pairs only test from last cursor at next live before now looked after old mid new way first high small short looks more few behind = record {
  marks =
      marked_then pairs no_mark (in_chosen only (λ a. lies_between from last a && test a)) (met test live) (met test live)
      no_mark (in_chosen only (λ a. lies_between from last a && test a)) (marked_by old) (marked_by mid) (marked_by new) way.marks more
      (λ t a tight narrow s some. absurd (nothing s)) (λ t a s. s)
      (λ t a s. and_true _ _
      (subst (λ x. is_chosen only x ≡ true) (same_tree live.tree live.address t a (and_left _ (test a) s)) stands.0)
      (and_true _ _
      (subst (λ x. lies_between from last x ≡ true) (same_address live.tree live.address t a (and_left _ (test a) s)) (inside from last live.address low high))
      (and_right (is_pair live.tree live.address t a) _ s)));
  gone = λ gone t a tight narrow above passed passes some. elim (decided (is_passed at t a)) [
    | inl was ↦ more.kept t a (way.gone gone t a tight narrow above was passes some)
    | inr not_yet ↦ more.found t a tight narrow (and_true _ _ (here t a tight narrow passed not_yet some) passes) (chosen_there only pairs t a some).1
  ];
  low = low_behind live next from behind low;
  looks = λ all n found.
      let so_far = way.looks all n found in
      let passes : test live.address ≡ true = all live.tree live.address (inside from last live.address low high) (ap is_some first.0) in
      let rest : now + n + count_of old ≤ before + so_far.0 + count_of mid + 0 = so_far.2 in (
        so_far.0 + 1,
        found_more (marked_by mid) (marked_by new) at next live so_far.0 more.kept behind first.1
            (more.found live.tree live.address small short (and_true _ _ (itself live) passes) (ap is_some stands.1)) so_far.1,
        omega arith,
      );
}
  where
    nothing : false ≡ true → ⊥
    nothing h = cc

    stands : (is_chosen only live.tree ≡ true) × (pairs live.tree live.address ≡ Some live)
    stands = chosen_stands only pairs live first.0

    low : from ≤ live.address
    low = way.low live.tree live.address first.1

    here : (t a : ℕ) → t < 2 ^ 64 → a < 2 ^ 64 → is_passed next t a ≡ true → is_passed at t a ≡ false → is_some (chosen only pairs t a) ≡ true → is_pair live.tree live.address t a ≡ true
    here t a tight narrow passed not_yet some = elim (decided (comes_before a t live.address live.tree)) [
      | inl below ↦ absurd (no_pair (chosen only pairs t a) (first.2 a t not_yet below) some)
      | inr above ↦ between live next t a behind tight narrow passed above
    ]

-- at the end of the range
pub record IsRangeGone (pairs : Pairs) (only : Option ℕ) (test : ℕ → Bool) (from last : ℕ) (cursor at : Option (ℕ × ℕ)) (before now : ℕ) (old new : Marks) : Type 0 where
  pub ok : AreGone (chosen only pairs) test from cursor (marked_by old) → AreMarked pairs (in_chosen only (λ a. lies_between from last a && test a)) (marked_by old) (marked_by new)
  pub gone : AreGone (chosen only pairs) test from cursor (marked_by old) → AreGone (chosen only pairs) test from at (marked_by new)
  pub looks : AllPass (chosen only pairs) (λ a. lies_between from last a) test → AreLooks before now old new cursor at 1

way_end : (pairs : Pairs) (only : Option ℕ) (test : ℕ → Bool) (from last : ℕ) (cursor at : Option (ℕ × ℕ)) (before now looked : ℕ) (old new : Marks)
    → AreOnTheWay pairs only test from last cursor at before now old new → looked ≤ now + 1
    → ((t a : ℕ) → lies_between from last a ≡ true → is_some (chosen only pairs t a) ≡ true → is_passed at t a ≡ true) → IsRangeGone pairs only test from last cursor at before looked old new
way_end pairs only test from last cursor at before now looked old new way looks passed = record {
  ok = λ gone. record {
    kept = way.marks.kept;
    closed = way.marks.closed;
    found = λ t a tight narrow s some.
        let within : (lies_between from last a && test a) ≡ true = and_right (is_chosen only t) _ s in
        let is : is_some (chosen only pairs t a) ≡ true = there_chosen only pairs t a (and_left _ (lies_between from last a && test a) s) some in
        way.gone gone t a tight narrow (from_range from last a (and_left _ (test a) within)) (passed t a (and_left _ (test a) within) is) (and_right (lies_between from last a) _ within) is;
    only = way.marks.only;
  };
  gone = way.gone;
  looks = λ all n found.
      let so_far = way.looks all n found in
      let rest : now + n + count_of old ≤ before + so_far.0 + count_of new + 0 = so_far.2 in
      (so_far.0, so_far.1, omega arith);
}

pub way_none : (pairs : Pairs) (only : Option ℕ) (test : ℕ → Bool) (from last : ℕ) (cursor at : Option (ℕ × ℕ)) (before now looked : ℕ) (old new : Marks)
    → AreOnTheWay pairs only test from last cursor at before now old new → looked ≤ now + 1 → IsFirst (chosen only pairs) at None → IsRangeGone pairs only test from last cursor at before looked old new
way_none pairs only test from last cursor at before now looked old new way looks none =
    way_end pairs only test from last cursor at before now looked old new way looks
    (λ t a within some. elim (decided (is_passed at t a)) [ inl was ↦ was | inr not_yet ↦ absurd (no_pair (chosen only pairs t a) (none a t not_yet) some) ])

pub way_past : (pairs : Pairs) (only : Option ℕ) (test : ℕ → Bool) (from last : ℕ) (cursor at : Option (ℕ × ℕ)) (live : Live) (before now looked : ℕ) (old new : Marks)
    → AreOnTheWay pairs only test from last cursor at before now old new → looked ≤ now + 1 → IsFirst (chosen only pairs) at (Some live) → last < live.address
    → IsRangeGone pairs only test from last cursor at before looked old new
way_past pairs only test from last cursor at live before now looked old new way looks first high =
    way_end pairs only test from last cursor at before now looked old new way looks
    (λ t a within some. elim (decided (is_passed at t a)) [
      | inl was ↦ was
      | inr not_yet ↦ absurd (no_pair (chosen only pairs t a) (first.2 a t not_yet (lower a t (below_range from last a within))) some)
    ])
  where
    lower : (a t : ℕ) → a ≤ last → comes_before a t live.address live.tree ≡ true
    lower a t below = grind (arith, nat_tests)

-- ---- a pair that is met

-- it is marked, where it passes
pub met_marked : (pairs : Pairs) (test : ℕ → Bool) (live : Live) (old new : Marked) → test live.address ≡ true
    → AreMarked pairs (is_pair live.tree live.address) old new → AreMarked pairs (met test live) old new
met_marked pairs test live old new passes more =
    marked_as pairs (is_pair live.tree live.address) (is_pair live.tree live.address) (met test live) (met test live) old new more
    (λ t a small low s some. and_left _ (test a) s)
    (λ t a s. and_true _ _ s (subst (λ x. test x ≡ true) (same_address live.tree live.address t a s) passes))

pub met_past : (pairs : Pairs) (test : ℕ → Bool) (live : Live) (old : Marked) → test live.address ≡ false → AreMarked pairs (met test live) old old
met_past pairs test live old fails =
    marked_none pairs (met test live) (met test live) old
    (λ t a s. never (test a) (and_right (is_pair live.tree live.address t a) _ s)
    (subst (λ x. test x ≡ false) (same_address live.tree live.address t a (and_left _ (test a) s)) fails))

pub ruleset mets = (met_marked, met_past)

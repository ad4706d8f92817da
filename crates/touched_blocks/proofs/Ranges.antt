-- Going through one range of addresses after the other.
use Rattle.std.proofs.Common.{◌≡◌, ℕ, ◌+◌, ◌*◌, ◌<◌, ◌≤◌, Bool, true, ◌&&◌, ◌||◌, List, [], ◌∷◌, length, take, get_or, inl, inr, sym, ◌∙◌, refl, ap, subst, arith}
use Rattle.std.specs.Prelude.{Option, Some}
use Rattle.std.specs.List.{AllByRecursion, list_any}
use Rattle.std.specs.List.Sorted.{IsNonDecreasingBy}
use Rattle.std.specs.Cmp.{IsEquivalence}
use Rattle.std.specs.BTreeMap.{is_at}
use Rattle.std.proofs.lemmas.Bool.Decides.{nat_tests}
use Rattle.std.proofs.lemmas.List.{get_or_default}
use Rattle.std.proofs.lemmas.List.Folds.{list_any_at}
use Rattle.std.proofs.lemmas.Map.Keys.{IsDistinct-from_apart}
use Rattle.std.proofs.lemmas.Map.Made.{length-le_from_is_member}
use Rattle.verdict.proofs.Truth.{and_left, and_right, and_true, or_cases}
use Rattle.live_index.specs.Pairs.{Pairs}
use Rattle.touched_blocks.specs.declared.marks.Marks.{Marks}
use Rattle.touched_blocks.specs.declared.marks.PairPlace.{PairPlace}
use Rattle.touched_blocks.specs.declared.range.Range.{Range}
use Rattle.touched_blocks.specs.Going.{AllPass, AreFound, AreGone, AreLooks, is_passed, same_pair}
use Rattle.touched_blocks.specs.Marking.{AreMarked, AreMarkedFrom}
use Rattle.touched_blocks.specs.Marks.{by_pair, count_of, marked_by, pair_place}
use Rattle.touched_blocks.specs.OneTree.{chosen, in_chosen, is_chosen}
use Rattle.touched_blocks.specs.Spots.{has_address, is_in}
use Rattle.touched_blocks.proofs.Each.{any_has, each_more, each_start}
use Rattle.touched_blocks.proofs.MarkLaws.{tied}
use Rattle.touched_blocks.proofs.Marking.{marked_as, same_address, same_tree}

-- ---- of the pairs that were found there are no more than marks

same_refl : (p : PairPlace) → same_pair p p ≡ true
same_refl p = grind (arith, nat_tests)

pub same_symm : (p q : PairPlace) → same_pair p q ≡ same_pair q p
same_symm p q = grind (arith, nat_tests)

same_congr : (p q r : PairPlace) → same_pair p q ≡ true → same_pair p r ≡ same_pair q r
same_congr p q r same =
    ap (λ x. same_pair x r) (one p q (same_tree p.tree p.address q.tree q.address same) (same_address p.tree p.address q.tree q.address same))
  where
    one : (p q : PairPlace) → p.tree ≡ q.tree → p.address ≡ q.address → p ≡ q
    one p q e f = ap (λ t. pair_place t p.address) e ∙ ap (λ a. pair_place q.tree a) f

pub same_laws : IsEquivalence same_pair
same_laws = record { refl = same_refl; symm = same_symm; congr = same_congr }

any_alike : (f g : PairPlace → Bool) → ((p : PairPlace) → f p ≡ g p) → (places : List PairPlace) → list_any f places ≡ list_any g places
any_alike f g same [] = refl
any_alike f g same (place ∷ places) = ap (λ b. b || list_any f places) (same place) ∙ ap (λ b. g place || b) (any_alike f g same places)

member_marked : (marks : Marks) (at : Option (ℕ × ℕ)) (places : List PairPlace) (q : PairPlace)
    → AllByRecursion (λ place. (marked_by marks place.tree place.address ≡ true) × (is_passed at place.tree place.address ≡ true)) places
    → list_any (same_pair q) places ≡ true → list_any (same_pair q) marks.places.keys ≡ true
unfolding marked_by
member_marked marks at [] q all h = cc
member_marked marks at (place ∷ places) q all h =
    elim (or_cases (same_pair q place) _ h) [
      | inl same ↦
          any_alike (same_pair q) (same_pair place) (λ r. same_congr q place r same) marks.places.keys
          ∙ sym (any_alike (is_at (by_pair place)) (same_pair place) (λ r. tied place r) marks.places.keys)
          ∙ all.0.0
      | inr later ↦ member_marked marks at places q all.1 later
    ]

found_few : (marks : Marks) (at : Option (ℕ × ℕ)) (n : ℕ) → AreFound (marked_by marks) at n → n ≤ count_of marks
unfolding count_of
found_few marks at n found =
    subst (λ x. x ≤ length marks.places.keys) found.many
    (length-le_from_is_member same_laws found.places marks.places.keys found.apart (λ q h. member_marked marks at found.places q found.all h))

-- ---- range by range

-- how far some ranges are gone through
pub record AreRangesGone (pairs : Pairs) (only : Option ℕ) (test : ℕ → Bool) (ranges : List Range) (i : ℕ) (cursor : Option (ℕ × ℕ)) (before now : ℕ) (old new : Marks) : Type 0 where
  pub marks : AreMarkedFrom pairs (any_has only has_address test (take i ranges)) (in_chosen only test) (marked_by old) (marked_by new)
  pub gone : (d : Range) (from : ℕ) → ((k : ℕ) → k < i → (get_or ranges k d).from ≤ from) → AreGone (chosen only pairs) test from cursor (marked_by new)
  pub looks : AllPass (chosen only pairs) (is_in ranges) test → AreLooks before now old new (Some (0, 0)) cursor i

pub ranges_start : (pairs : Pairs) (only : Option ℕ) (test : ℕ → Bool) (ranges : List Range) (before : ℕ) (old : Marks) → AreRangesGone pairs only test ranges 0 (Some (0, 0)) before before old old
ranges_start pairs only test ranges before old = record {
  marks = each_start pairs only has_address test ranges (marked_by old);
  gone = λ d from low t a tight narrow above passed passes some. absurd (not_before t a passed);
  looks = λ all n found. (n, found, omega arith);
}
  where
    not_before : (t a : ℕ) → is_passed (Some (0, 0)) t a ≡ true → ⊥
    not_before t a h = grind (arith, nat_tests)

pub ranges_more : (pairs : Pairs) (only : Option ℕ) (test : ℕ → Bool) (ranges : List Range) (i : ℕ) (d : Range) (cursor next : Option (ℕ × ℕ)) (before now after : ℕ) (old mid new : Marks)
    → IsNonDecreasingBy (λ (range : Range). range.from) ranges
    → AreRangesGone pairs only test ranges i cursor before now old mid → i < length ranges
    → (AreGone (chosen only pairs) test (get_or ranges i d).from cursor (marked_by mid)
    → AreMarked pairs (in_chosen only (λ a. has_address a (get_or ranges i d) && test a)) (marked_by mid) (marked_by new))
    → (AreGone (chosen only pairs) test (get_or ranges i d).from cursor (marked_by mid) → AreGone (chosen only pairs) test (get_or ranges i d).from next (marked_by new))
    → (AllPass (chosen only pairs) (λ a. has_address a (get_or ranges i d)) test → AreLooks now after mid new cursor next 1)
    → AreRangesGone pairs only test ranges (i + 1) next before after old new
ranges_more pairs only test ranges i d cursor next before now after old mid new rise so_far inside more gone looks = record {
  marks =
      each_more pairs only has_address test ranges i d (marked_by old) (marked_by mid) (marked_by new) so_far.marks inside
      (marked_as pairs (in_chosen only (λ a. has_address a (get_or ranges i d) && test a)) (in_chosen only (λ a. has_address a (get_or ranges i d) && test a))
      (in_chosen only (λ a. has_address a (get_or ranges i d) && test a)) (in_chosen only test) (marked_by mid) (marked_by new) (more before_it)
      (λ t a tight narrow s some. s)
      (λ t a s. and_true _ _ (and_left _ (has_address a (get_or ranges i d) && test a) s) (and_right (has_address a (get_or ranges i d)) _ (and_right (is_chosen only t) _ s))));
  gone = λ e from low t a tight narrow above passed passes some.
      gone before_it t a tight narrow
      (let begins : (get_or ranges i e).from ≤ from = low i (omega arith) in
      let same : (get_or ranges i e).from ≡ (get_or ranges i d).from = ap (λ (r : Range). r.from) (get_or_default ranges i e d inside) in
      omega arith)
      passed passes some;
  looks = λ all n found.
      let first = so_far.looks all n found in
      let second = looks (λ t a within some. all t a (list_any_at (has_address a) ranges i d inside within) some) first.0 first.1 in
      let one : now + n + count_of old ≤ before + first.0 + count_of mid + i = first.2 in
      let two : after + first.0 + count_of mid ≤ now + second.0 + count_of new + 1 = second.2 in
      (second.0, second.1, omega arith);
}
  where
    before_it : AreGone (chosen only pairs) test (get_or ranges i d).from cursor (marked_by mid)
    before_it = so_far.gone d (get_or ranges i d).from (λ k below. rise k i d (omega arith) inside)

-- at the end
pub record AreAllGone (pairs : Pairs) (only : Option ℕ) (test : ℕ → Bool) (ranges : List Range) (before now : ℕ) (old new : Marks) : Type 0 where
  pub ok : AreMarkedFrom pairs (in_chosen only (λ a. is_in ranges a && test a)) (in_chosen only test) (marked_by old) (marked_by new)
  pub looks : AllPass (chosen only pairs) (is_in ranges) test → now + count_of old ≤ before + 2 * count_of new + length ranges

pub ranges_all : (pairs : Pairs) (only : Option ℕ) (test : ℕ → Bool) (ranges : List Range) (i : ℕ) (cursor : Option (ℕ × ℕ)) (before now : ℕ) (old new : Marks) → take i ranges ≡ ranges → i ≤ length ranges
    → AreRangesGone pairs only test ranges i cursor before now old new → AreAllGone pairs only test ranges before now old new
ranges_all pairs only test ranges i cursor before now old new whole inside gone = record {
  ok = subst (λ l. AreMarkedFrom pairs (any_has only has_address test l) (in_chosen only test) (marked_by old) (marked_by new)) whole gone.marks;
  looks = λ all.
      let last = gone.looks all 0 (record { places = []; many = refl; apart = IsDistinct-from_apart same_pair [] (λ i j d before short. absurd (omega arith)); all = tt }) in
      let few : last.0 ≤ count_of new = found_few new cursor last.0 last.1 in
      let rest : now + 0 + count_of old ≤ before + last.0 + count_of new + i = last.2 in
      omega arith;
}

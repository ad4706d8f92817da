-- Marks of a list of places that are put one after the other.
use Rattle.std.proofs.Common.{◌≡◌, ℕ, ◌+◌, ◌<◌, ◌≤◌, Bool, true, false, not, cond, ◌&&◌, ◌||◌, ◌==◌, List, [], ◌∷◌, length, map, take, get_or, inl, inr, sym, ◌∙◌, refl, ap, arith}
use Rattle.std.specs.List.{AllByRecursion, IsDistinct, list_any}
use Rattle.std.proofs.lemmas.List.{length-map, take_more}
use Rattle.std.proofs.lemmas.List.Folds.{list_any-append}
use Rattle.std.proofs.lemmas.Map.Keys.{IsDistinct-cons}
use Rattle.std.proofs.lemmas.Map.Made.{length-le_from_is_member}
use Rattle.verdict.proofs.Truth.{never, or_cases}
use Rattle.live_index.specs.declared.live.Live.{Live}
use Rattle.touched_blocks.specs.declared.marks.PairPlace.{PairPlace}
use Rattle.touched_blocks.specs.Going.{same_pair}
use Rattle.touched_blocks.specs.Marks.{AreAmong, Marked, in_lives, is_pair, left_of, marked_in, pair_place, with_mark}
use Rattle.touched_blocks.proofs.Marking.{same_address, same_tree, put_kept}
use Rattle.touched_blocks.proofs.Ranges.{same_laws, same_symm}

-- one place more
marked_more : (places : List PairPlace) (i : ℕ) (d : PairPlace) → i < length places → (t a : ℕ)
    → marked_in (take (i + 1) places) t a ≡ with_mark (marked_in (take i places)) (get_or places i d).tree (get_or places i d).address t a
marked_more places i d inside t a =
    ap (λ l. marked_in l t a) (take_more places i d inside)
    ∙ list_any-append (λ (place : PairPlace). place.tree == t && place.address == a) (take i places) (get_or places i d ∷ [])
    ∙ by (is_pair (get_or places i d).tree (get_or places i d).address t a) (marked_in (take i places) t a)
  where
    by : (b m : Bool) → (m || (b || false)) ≡ cond b true m
    by true true = refl
    by true false = refl
    by false true = refl
    by false false = refl

-- ---- those alone that pass a test

abbrev pub ArePassing : (ℕ → Bool) → Marked → Marked → Type 0
ArePassing test all some = (t a : ℕ) → some t a ≡ (all t a && test a)

module _ (test : ℕ → Bool) (places : List PairPlace) (i : ℕ) (d : PairPlace) (inside : i < length places) where
  pub passing_more : (old new : Marked) → ArePassing test (marked_in (take i places)) old → test (get_or places i d).address ≡ true
      → ((t a : ℕ) → new t a ≡ with_mark old (get_or places i d).tree (get_or places i d).address t a)
      → ArePassing test (marked_in (take (i + 1) places)) new
  passing_more old new so_far pass put t a =
      put t a
      ∙ by (is_pair (get_or places i d).tree (get_or places i d).address t a) refl
      ∙ sym (ap (λ b. b && test a) (marked_more places i d inside t a))
    where
      by : (b : Bool) → is_pair (get_or places i d).tree (get_or places i d).address t a ≡ b
          → cond b true (old t a) ≡ (cond b true (marked_in (take i places) t a) && test a)
      by true is = sym pass ∙ ap test (same_address (get_or places i d).tree (get_or places i d).address t a is)
      by false is = so_far t a

  pub passing_same : (old : Marked) → ArePassing test (marked_in (take i places)) old → test (get_or places i d).address ≡ false
      → ArePassing test (marked_in (take (i + 1) places)) old
  passing_same old so_far pass t a =
      so_far t a
      ∙ by (is_pair (get_or places i d).tree (get_or places i d).address t a) refl
      ∙ sym (ap (λ b. b && test a) (marked_more places i d inside t a))
    where
      none : (m b : Bool) → b ≡ false → (m && b) ≡ b
      none true b unmet = refl
      none false b unmet = sym unmet

      by : (b : Bool) → is_pair (get_or places i d).tree (get_or places i d).address t a ≡ b
          → (marked_in (take i places) t a && test a) ≡ (cond b true (marked_in (take i places) t a) && test a)
      by true is =
          none (marked_in (take i places) t a) (test a) (sym (ap test (same_address (get_or places i d).tree (get_or places i d).address t a is)) ∙ pass)
      by false is = refl

pub ruleset passing = (passing_more, passing_same)

-- behind the last place
pub passing_all : (test : ℕ → Bool) (so_far places : List PairPlace) (all some : Marked) → so_far ≡ places → ((t a : ℕ) → all t a ≡ marked_in places t a)
    → ArePassing test (marked_in so_far) some → ArePassing test all some
passing_all test so_far places all some whole same are t a =
    are t a ∙ ap (λ l. marked_in l t a && test a) whole ∙ sym (ap (λ b. b && test a) (same t a))

-- ---- those that are put to others

-- Of marks that had been so many, and now are so many, those that are new are different pairs.
pub record AreNew (old now : Marked) (before count : ℕ) : Type 0 where
  pub places : List PairPlace
  pub many : count ≡ before + length places
  pub apart : IsDistinct same_pair places
  pub all : AllByRecursion (λ place. (now place.tree place.address ≡ true) × (old place.tree place.address ≡ false)) places

-- how far the places of a list are put to marks
pub record ArePut (old now : Marked) (places : List PairPlace) (before count : ℕ) : Type 0 where
  pub marks : (t a : ℕ) → now t a ≡ (old t a || marked_in places t a)
  pub new : AreNew old now before count

pub put_start : (old : Marked) (places : List PairPlace) (count : ℕ) → ArePut old old (take 0 places) count count
unfolding IsDistinct
put_start old places count = record {
  marks = λ t a. none (old t a);
  new = record { places = []; many = omega arith; apart = tt; all = tt };
}
  where
    none : (b : Bool) → b ≡ (b || false)
    none true = refl
    none false = refl

with_itself : (marked : Marked) (t a : ℕ) → with_mark marked t a t a ≡ true
with_itself marked t a = ap (λ b. cond b true (marked t a)) (same_laws.refl (pair_place t a))

all_kept : (old mid now : Marked) (places : List PairPlace) → ((t a : ℕ) → mid t a ≡ true → now t a ≡ true)
    → AllByRecursion (λ place. (mid place.tree place.address ≡ true) × (old place.tree place.address ≡ false)) places
    → AllByRecursion (λ place. (now place.tree place.address ≡ true) × (old place.tree place.address ≡ false)) places
all_kept old mid now [] kept all = tt
all_kept old mid now (place ∷ places) kept all = ((kept place.tree place.address all.0.0, all.0.1), all_kept old mid now places kept all.1)

-- a pair that has no mark is none of those that have one
others : (old mid : Marked) (t a : ℕ) (places : List PairPlace) → mid t a ≡ false
    → AllByRecursion (λ place. (mid place.tree place.address ≡ true) × (old place.tree place.address ≡ false)) places
    → AllByRecursion (λ place. same_pair (pair_place t a) place ≡ false) places
others old mid t a [] none all = tt
others old mid t a (place ∷ places) none all =
    (other (is_pair t a place.tree place.address) refl, others old mid t a places none all.1)
  where
    other : (b : Bool) → is_pair t a place.tree place.address ≡ b → is_pair t a place.tree place.address ≡ false
    other false is = is
    other true is = absurd (never (mid t a)
        (ap (λ u. mid u a) (same_tree t a place.tree place.address is) ∙ ap (λ b. mid place.tree b) (same_address t a place.tree place.address is) ∙ all.0.0) none)

new_more : (old mid now : Marked) (t a before count next : ℕ) → ((u b : ℕ) → now u b ≡ with_mark mid t a u b) → (old t a ≡ true → mid t a ≡ true)
    → next ≡ count + cond (mid t a) 0 1 → AreNew old mid before count → AreNew old now before next
new_more old mid now t a before count next put had more are = by (mid t a) refl
  where
    kept : (u b : ℕ) → mid u b ≡ true → now u b ≡ true
    kept u b is = put u b ∙ put_kept mid t a u b is

    was_none : (b : Bool) → old t a ≡ b → mid t a ≡ false → old t a ≡ false
    was_none false is none = is
    was_none true is none = absurd (never (mid t a) (had is) none)

    by : (b : Bool) → mid t a ≡ b → AreNew old now before next
    by true is =
        let same : next ≡ count + 0 = more ∙ ap (λ c. count + cond c 0 1) is in
        let many : count ≡ before + length are.places = are.many in
        record {
          places = are.places;
          many = omega arith;
          apart = are.apart;
          all = all_kept old mid now are.places kept are.all;
        }
    by false none =
        let one : next ≡ count + 1 = more ∙ ap (λ c. count + cond c 0 1) none in
        let many : count ≡ before + length are.places = are.many in
        record {
          places = pair_place t a ∷ are.places;
          many = omega arith;
          apart = IsDistinct-cons same_pair (pair_place t a) are.places (others old mid t a are.places none are.all) are.apart;
          all = ((put t a ∙ with_itself mid t a, was_none (old t a) refl none), all_kept old mid now are.places kept are.all);
        }

pub put_more : (old mid now : Marked) (places : List PairPlace) (i : ℕ) (d : PairPlace) (before count next : ℕ) → i < length places
    → ArePut old mid (take i places) before count
    → ((t a : ℕ) → now t a ≡ with_mark mid (get_or places i d).tree (get_or places i d).address t a)
    → next ≡ count + cond (mid (get_or places i d).tree (get_or places i d).address) 0 1
    → ArePut old now (take (i + 1) places) before next
put_more old mid now places i d before count next inside are put more = record {
  marks = λ t a.
      put t a
      ∙ ap (λ m. cond (is_pair (get_or places i d).tree (get_or places i d).address t a) true m) (are.marks t a)
      ∙ turn (is_pair (get_or places i d).tree (get_or places i d).address t a) (old t a) (marked_in (take i places) t a)
      ∙ sym (ap (λ m. old t a || m) (marked_more places i d inside t a));
  new = new_more old mid now (get_or places i d).tree (get_or places i d).address before count next put
      (λ had. are.marks (get_or places i d).tree (get_or places i d).address ∙ ap (λ b. b || marked_in (take i places) (get_or places i d).tree (get_or places i d).address) had)
      more are.new;
}
  where
    turn : (b o m : Bool) → cond b true (o || m) ≡ (o || cond b true m)
    turn true true m = refl
    turn true false m = refl
    turn false o m = refl

-- behind the last place
pub put_all : (old now other : Marked) (so_far places : List PairPlace) (before count : ℕ) → so_far ≡ places → ((t a : ℕ) → other t a ≡ marked_in places t a)
    → ArePut old now so_far before count → (t a : ℕ) → now t a ≡ (old t a || other t a)
put_all old now other so_far places before count whole same are t a =
    are.marks t a ∙ ap (λ l. old t a || marked_in l t a) whole ∙ sym (ap (λ m. old t a || m) (same t a))

-- ---- there are no more new ones than live pairs among which each is

place_of : Live → PairPlace
place_of live = pair_place live.tree live.address

is_among : (q : PairPlace) (lives : List Live) → list_any (same_pair q) (map place_of lives) ≡ in_lives lives q.tree q.address
unfolding place_of
is_among q [] = refl
is_among q (live ∷ lives) =
    ap (λ b. b || list_any (same_pair q) (map place_of lives)) (same_symm q (pair_place live.tree live.address))
    ∙ ap (λ b. is_pair live.tree live.address q.tree q.address || b) (is_among q lives)

module _ (old now other : Marked) (joined : (t a : ℕ) → now t a ≡ (old t a || other t a)) where
  is_left : (t a : ℕ) → now t a ≡ true → old t a ≡ false → left_of old other t a ≡ true
  is_left t a is none = by (old t a) (other t a) none (sym (joined t a) ∙ is)
    where
      by : (b c : Bool) → b ≡ false → (b || c) ≡ true → (c && not b) ≡ true
      by true c unmarked h = cc
      by false true unmarked h = refl
      by false false unmarked h = cc

  each_left : (q : PairPlace) (places : List PairPlace)
      → AllByRecursion (λ place. (now place.tree place.address ≡ true) × (old place.tree place.address ≡ false)) places
      → list_any (same_pair q) places ≡ true → left_of old other q.tree q.address ≡ true
  each_left q [] all has = cc
  each_left q (place ∷ places) all has = elim (or_cases (same_pair q place) _ has) [
    | inl same ↦
        ap (λ t. left_of old other t q.address) (same_tree q.tree q.address place.tree place.address same)
        ∙ ap (λ a. left_of old other place.tree a) (same_address q.tree q.address place.tree place.address same)
        ∙ is_left place.tree place.address all.0.0 all.0.1
    | inr later ↦ each_left q places all.1 later
  ]

  pub put_few : (before count : ℕ) → AreNew old now before count → (lives : List Live) → AreAmong (left_of old other) lives → count ≤ before + length lives
  put_few before count are lives among =
      let most : length are.places ≤ length (map place_of lives) =
      length-le_from_is_member same_laws are.places (map place_of lives) are.apart
      (λ q has. is_among q lives ∙ among q.tree q.address (each_left q are.places are.all has)) in
      let many : count ≡ before + length are.places = are.many in
      omega (arith, most, length-map lives place_of)

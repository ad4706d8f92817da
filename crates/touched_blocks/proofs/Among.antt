-- How many marks there are at most, where each marked pair is one of some live pairs, or is above one.
use Rattle.std.proofs.Common.{◌≡◌, ℕ, zero, suc, ◌+◌, ◌<◌, ◌≤◌, ◌==◌, Bool, true, false, ◌&&◌, ◌||◌, List, [], ◌∷◌, ◌++◌, length, map, ◌⊎◌, inl, inr, sym, ◌∙◌, refl, ap, subst, arith}
use Rattle.std.specs.Prelude.{Option, Some, None, is_some}
use Rattle.std.specs.Cmp.{IsEquivalence}
use Rattle.std.specs.Ordering.{eq_by_cmp}
use Rattle.std.specs.Set.{is_member}
use Rattle.std.specs.BTreeSet as set
use Rattle.std.proofs.lemmas.Bool.Decides.{nat_tests}
use Rattle.std.proofs.lemmas.List.{length-append, length-map}
use Rattle.std.proofs.lemmas.List.Folds.{list_any-append}
use Rattle.std.proofs.lemmas.Map.Keys.{IsDistinct-from_sorted}
use Rattle.std.proofs.lemmas.Map.Made.{length-le_from_is_member}
use Rattle.verdict.proofs.Truth.{and_left, and_right, or_cases, or_left, or_right}
use Rattle.live_index.specs.declared.live.Live.{Live}
use Rattle.live_index.specs.Pairs.{Pairs}
use Rattle.touched_blocks.specs.declared.marks.Marks.{Marks}
use Rattle.touched_blocks.specs.declared.marks.PairPlace.{PairPlace}
use Rattle.touched_blocks.specs.Marking.{AreLow, AreMarkedFrom, ClimbsTo, HaveEach, marks_at, marks_by, marks_for, parent_of}
use Rattle.touched_blocks.specs.Marking.ClimbsTo.{Here, Up}
use Rattle.touched_blocks.specs.Marks.{AreAmong, Marked, by_pair, count_of, in_lives, is_pair, marked_by, pair_place}
use Rattle.touched_blocks.specs.OneTree.{chosen, in_chosen, is_chosen}
use Rattle.touched_blocks.proofs.Choosing.{there_chosen}
use Rattle.touched_blocks.proofs.MarkLaws.{tied}
use Rattle.touched_blocks.proofs.Marking.{above_is, same_address, same_tree, no_up}

-- ---- marks are different places

same_place : PairPlace → PairPlace → Bool
same_place = eq_by_cmp by_pair

place_of : Live → PairPlace
place_of live = pair_place live.tree live.address

places_alike : IsEquivalence same_place
unfolding same_place
places_alike = record {
  refl = λ x. tied x x ∙ itself x.tree x.address;
  symm = λ x y. tied x y ∙ turned x.tree x.address y.tree y.address ∙ sym (tied y x);
  congr = λ x y z same. tied x z ∙ alike x.tree x.address y.tree y.address z.tree z.address (sym (tied x y) ∙ same) ∙ sym (tied y z);
}
  where
    itself : (t a : ℕ) → (t == t && a == a) ≡ true
    itself t a = grind (arith, nat_tests)

    turned : (t a u b : ℕ) → (t == u && a == b) ≡ (u == t && b == a)
    turned t a u b = grind (arith, nat_tests)

    alike : (t a u b v c : ℕ) → (t == u && a == b) ≡ true → (t == v && a == c) ≡ (u == v && b == c)
    alike t a u b v c same = grind (arith, nat_tests)

is_among : (q : PairPlace) (lives : List Live) → is_member same_place (map place_of lives) q ≡ in_lives lives q.tree q.address
unfolding same_place place_of
is_among q [] = refl
is_among q (live ∷ lives) =
    ap (λ b. b || is_member same_place (map place_of lives) q) (tied q (pair_place live.tree live.address) ∙ turned q.tree q.address live.tree live.address)
    ∙ ap (λ b. is_pair live.tree live.address q.tree q.address || b) (is_among q lives)
  where
    turned : (t a u b : ℕ) → (t == u && a == b) ≡ (u == t && b == a)
    turned t a u b = grind (arith, nat_tests)

pub count_among : (marks : Marks) → set.IsOrdered by_pair marks.places → (lives : List Live) → AreAmong (marked_by marks) lives → count_of marks ≤ length lives
unfolding count_of marked_by same_place
count_among marks ordered lives among =
    let most : length marks.places.keys ≤ length (map place_of lives) =
    length-le_from_is_member places_alike marks.places.keys (map place_of lives) (IsDistinct-from_sorted by_pair marks.places.keys ordered)
    (λ q has. is_among q lives ∙ among q.tree q.address has) in
    omega (arith, most, length-map lives place_of)

-- ---- pairs above others

-- the pair of a tree at an address, in all else like another
at_pair : Live → ℕ → ℕ → Live
at_pair live t a =
    record { tree = t; address = a; level = live.level; generation = live.generation; first = live.first; last = live.last; parent = live.parent; owner = live.owner }

above : (ℕ → List Live) → Option Live → List Live
above rest None = []
above rest (Some live) = rest live.parent

-- the pair at an address and those above it, no more than so many
climbed : Pairs → Live → ℕ → ℕ → ℕ → List Live
climbed pairs live t zero a = []
climbed pairs live t (suc n) a = at_pair live t a ∷ above (climbed pairs live t n) (pairs t a)

-- the same, no more than marks are enough for it
climbed_from : Pairs → Live → List Live
climbed_from pairs live = climbed pairs live live.tree (marks_at pairs live.tree (pairs live.tree live.address)) live.address

all_climbed : Pairs → List Live → List Live
all_climbed pairs [] = []
all_climbed pairs (live ∷ lives) = climbed_from pairs live ++ all_climbed pairs lives

climbed_few : (pairs : Pairs) (live : Live) (t n a : ℕ) → length (climbed pairs live t n a) ≤ n
unfolding climbed above
climbed_few pairs live t zero a = omega arith
climbed_few pairs live t (suc n) a = by (climbed_few pairs live t n) (pairs t a)
  where
    by : ((b : ℕ) → length (climbed pairs live t n b) ≤ n) → (o : Option Live) → length (at_pair live t a ∷ above (climbed pairs live t n) o) ≤ suc n
    by rest None = omega arith
    by rest (Some up) = let few : length (climbed pairs live t n up.parent) ≤ n = rest up.parent in omega arith

all_few : (pairs : Pairs) (lives : List Live) → length (all_climbed pairs lives) ≤ marks_for pairs lives
unfolding all_climbed climbed_from
all_few pairs [] = omega arith
all_few pairs (live ∷ lives) =
    let most = marks_at pairs live.tree (pairs live.tree live.address) in
    sums (length (climbed_from pairs live ++ all_climbed pairs lives)) (length (climbed_from pairs live)) (length (all_climbed pairs lives)) most
    (marks_for pairs lives) (length-append (climbed_from pairs live) (all_climbed pairs lives)) (climbed_few pairs live live.tree most live.address)
    (all_few pairs lives)
  where
    sums : (n a b m k : ℕ) → n ≡ a + b → a ≤ m → b ≤ k → n ≤ m + k
    sums n a b m k x y z = omega (arith, x, y, z)

itself : (t a : ℕ) → is_pair t a t a ≡ true
itself t a = grind (arith, nat_tests)

pub some_same : (one other : Live) → Some one ≡ Some other → one ≡ other
some_same one other same = cc

climbed_has : (pairs : Pairs) (one : Live) (t to from n : ℕ) (low : Live) → AreLow pairs → ClimbsTo pairs t to from → pairs t from ≡ Some low → 8 ≤ n + low.level
    → in_lives (climbed pairs one t n from) t to ≡ true
unfolding climbed at_pair above
climbed_has pairs one t to from zero low lows way is enough = absurd (omega (arith, lows t from low is, enough))
climbed_has pairs one t to _ (suc n) low lows Here is enough = or_left _ _ (itself t to)
climbed_has pairs one t to from (suc n) low lows (Up _ live up here higher way) is enough =
    or_right (is_pair t from t to) _ (subst (λ o. in_lives (above (climbed pairs one t n) o) t to ≡ true) (sym here)
    (climbed_has pairs one t to live.parent n found.0 lows way found.1 (omega (arith, enough, found.2, level))))
  where
    found : (x : Live) × (pairs t live.parent ≡ Some x) × (live.level < x.level)
    found = above_is live up (pairs t live.parent) higher

    level : low.level ≡ live.level
    level = ap (λ o. elim o as (λ _. ℕ) [ None ↦ 0 | Some l ↦ l.level ]) (sym is ∙ here)

-- where no pair is above a pair, marks from it up are on it alone
alone_has : (pairs : Pairs) (one : Live) (t to from : ℕ) (low : Live) → ClimbsTo pairs t to from → pairs t from ≡ Some low
    → parent_of pairs t low ≡ None → in_lives (climbed pairs one t 1 from) t to ≡ true
unfolding climbed at_pair above
alone_has pairs one t to _ low Here is none = or_left _ _ (itself t to)
alone_has pairs one t to from low (Up _ live up here higher way) is none =
    absurd (no_up (parent_of pairs t low) up none (subst (λ (l : Live). parent_of pairs t l ≡ Some up) (some_same live low (sym here ∙ is)) higher))

-- the marks that are enough for a pair are those on it and on all above it
enough_has : (pairs : Pairs) (one : Live) (t to from : ℕ) (low : Live) → AreLow pairs → ClimbsTo pairs t to from → pairs t from ≡ Some low
    → in_lives (climbed pairs one t (marks_at pairs t (pairs t from)) from) t to ≡ true
enough_has pairs one t to from low lows way is =
    subst (λ o. in_lives (climbed pairs one t (marks_at pairs t o) from) t to ≡ true) (sym is) (by (parent_of pairs t low) refl)
  where
    by : (o : Option Live) → parent_of pairs t low ≡ o → in_lives (climbed pairs one t (marks_by o) from) t to ≡ true
    by None none = alone_has pairs one t to from low way is none
    by (Some up) higher = climbed_has pairs one t to from 8 low lows way is (omega arith)

some_there : (o : Option Live) → is_some o ≡ true → (live : Live) × (o ≡ Some live)
some_there None h = cc
some_there (Some live) h = (live, refl)

all_has : (pairs : Pairs) (lives : List Live) (t a from : ℕ) → AreLow pairs → ClimbsTo pairs t a from → is_some (pairs t from) ≡ true → in_lives lives t from ≡ true
    → in_lives (all_climbed pairs lives) t a ≡ true
unfolding all_climbed climbed_from
all_has pairs [] t a from lows way there has = cc
all_has pairs (live ∷ lives) t a from lows way there has =
    list_any-append (λ (l : Live). is_pair l.tree l.address t a) (climbed_from pairs live) (all_climbed pairs lives)
    ∙ by (all_has pairs lives t a from lows way there) (or_cases (is_pair live.tree live.address t from) _ has)
  where
    by : (in_lives lives t from ≡ true → in_lives (all_climbed pairs lives) t a ≡ true)
        → (is_pair live.tree live.address t from ≡ true) ⊎ (in_lives lives t from ≡ true)
        → (in_lives (climbed_from pairs live) t a || in_lives (all_climbed pairs lives) t a) ≡ true
    by rest (inl same) =
        let low = some_there (pairs t from) there in
        or_left _ _ (subst (λ x. in_lives (climbed pairs live x (marks_at pairs x (pairs x live.address)) live.address) t a ≡ true)
        (sym (same_tree live.tree live.address t from same))
        (subst (λ x. in_lives (climbed pairs live t (marks_at pairs t (pairs t x)) x) t a ≡ true)
        (sym (same_address live.tree live.address t from same))
        (enough_has pairs live t a from low.0 lows way low.1)))
    by rest (inr later) = or_right _ _ (rest later)

-- Pairs on levels below 8 that are marked from some pairs up are at most one for each of these that has no pair above it, and eight for each
-- other one.
pub few_marked : (pairs : Pairs) (only : Option ℕ) (test : ℕ → Bool) (must none marked : Marked) (count : ℕ) → ((t a : ℕ) → none t a ≡ false)
    → AreMarkedFrom pairs must (in_chosen only test) none marked → ((lives : List Live) → AreAmong marked lives → count ≤ length lives)
    → AreLow pairs → (lives : List Live) → HaveEach (chosen only pairs) test lives → count ≤ marks_for pairs lives
few_marked pairs only test must none marked count unmarked more counted lows lives each =
    let most : count ≤ length (all_climbed pairs lives) = counted (all_climbed pairs lives) among in
    omega (arith, most, all_few pairs lives)
  where
    nothing : (b : Bool) → b ≡ true → b ≡ false → ⊥
    nothing b t f = cc

    among : AreAmong marked (all_climbed pairs lives)
    among t a is = elim (more.only t a is) [
      | inl had ↦ absurd (nothing (none t a) had (unmarked t a))
      | inr from ↦ all_has pairs lives t a from.0 lows from.3 from.2 (each t from.0 (and_right (is_chosen only t) _ from.1)
          (there_chosen only pairs t from.0 (and_left _ (test from.0) from.1) from.2))
    ]

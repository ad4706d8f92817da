-- The map by tree and address: the pairs that it has after a change, and the next pair of a tree.
use Rattle.std.proofs.Common.{◌≡◌, ℕ, ◌<◌, ◌≤◌, true, false, cond, ◌&&◌, List, [], ◌∷◌, refl, sym, ap, ◌∙◌, subst, arith}
use Rattle.std.specs.Prelude.{◌==◌, Option, Some, None, IsSome, Result, Ok, Err, OnOk, OnErr}
use Rattle.std.specs.Ordering.{is_gt}
use Rattle.std.specs.declared.ops.Bound.TheVariants.{Unbounded}
use Rattle.std.specs.BTreeMap as map
use Rattle.std.specs.BTreeMap.{is_at}
use Rattle.std.specs.BTreeMap.Range.{IsFromStart, IsRangeOf}
use Rattle.std.specs.Map.{lookup}
use Rattle.std.proofs.Math.Path.{fun_ext}
use Rattle.std.proofs.lemmas.Bool.Decides.{nat_tests}
use Rattle.live_index.specs.declared.live.Live.{Live}
use Rattle.live_index.specs.declared.places.ByTree.{ByTree}
use Rattle.live_index.specs.InOrder.{pairs_in, place_of, start_of}
use Rattle.live_index.specs.Orders.{by_tree}
use Rattle.live_index.specs.Pairs.{IsNextOf, is_above, with_pair, without_pair}
use Rattle.live_index.proofs.AlikeLaws.{AreOwn, one_place, put_back, undone}
use Rattle.live_index.proofs.PlaceLaws.{tied_tree}

pub pairs_there : (m : map.BTreeMap ByTree Live) (k : ByTree) (t a : ℕ) → k ≡ place_of t a → map.get by_tree m k ≡ pairs_in m t a
unfolding pairs_in
pairs_there m k t a is = ap (map.get by_tree m) is

pub pairs_same : (m n : map.BTreeMap ByTree Live) → n.entries ≡ m.entries → pairs_in n ≡ pairs_in m
unfolding pairs_in
pairs_same m n is = ap (λ es t a. lookup (is_at (by_tree (place_of t a))) es) is

pub pairs_none : (m : map.BTreeMap ByTree Live) → m.entries ≡ [] → (t a : ℕ) → pairs_in m t a ≡ None
unfolding pairs_in
pairs_none m is t a = ap (lookup (is_at (by_tree (place_of t a)))) is

pub pairs_put : (m n : map.BTreeMap ByTree Live) (k : ByTree) (t a : ℕ) (live : Live) → k ≡ place_of t a → live.tree ≡ t → live.address ≡ a → map.Updates by_tree m n k (Some live) → pairs_in n ≡ with_pair (pairs_in m) live
unfolding pairs_in
pairs_put m n k t a live is tree address updates = fun_ext (λ t'. fun_ext (λ a'.
    updates.0 (place_of t' a')
    ∙ ap (λ b. cond b (Some live) (pairs_in m t' a'))
    (tied_tree k (place_of t' a') ∙ ap (λ x. x.tree == t' && x.address == a') is ∙ ap (λ x. x == t' && a == a') (sym tree) ∙ ap (λ x. live.tree == t' && x == a') (sym address))))

pub pairs_taken : (m n : map.BTreeMap ByTree Live) (k : ByTree) (t a : ℕ) → k ≡ place_of t a → map.UpdatesBy by_tree (by_tree k) m n None → pairs_in n ≡ without_pair (pairs_in m) t a
unfolding pairs_in
pairs_taken m n k t a is updates = fun_ext (λ t'. fun_ext (λ a'.
    updates.0 (place_of t' a') ∙ ap (λ b. cond b None (pairs_in m t' a')) (tied_tree k (place_of t' a') ∙ ap (λ x. x.tree == t' && x.address == a') is)))

-- ---- the next pair of a tree

from_start : (tree : ℕ) (after : Option ℕ) (a : ℕ) → is_above after a ≡ true → IsFromStart by_tree (start_of tree after) (place_of tree a)
from_start tree None a h = grind (arith, nat_tests)
from_start tree (Some after) a h = grind (arith, nat_tests)

above_start : (tree : ℕ) (after : Option ℕ) (e : ByTree) → IsFromStart by_tree (start_of tree after) e → e.tree ≡ tree → is_above after e.address ≡ true
above_start tree None e h is = refl
above_start tree (Some after) e h is = grind (arith, nat_tests)

same_tree : (tree : ℕ) (after : Option ℕ) (e : ByTree) → IsFromStart by_tree (start_of tree after) e → e.tree ≤ tree → e.tree ≡ tree
same_tree tree None e h low = grind (arith, nat_tests)
same_tree tree (Some after) e h low = grind (arith, nat_tests)

later_tree : (tree : ℕ) (after : Option ℕ) (e : ByTree) (a : ℕ) → IsFromStart by_tree (start_of tree after) e → (e.tree == tree) ≡ false → is_gt (by_tree e (place_of tree a)) ≡ true
later_tree tree None e a h apart = grind (arith, nat_tests)
later_tree tree (Some after) e a h apart = grind (arith, nat_tests)

later_address : (e : ByTree) (tree a : ℕ) → e.tree ≡ tree → a < e.address → is_gt (by_tree e (place_of tree a)) ≡ true
later_address e tree a is h = grind (arith, nat_tests)

none_unless : (y : Option Live) → (IsSome y → true ≡ false) → y ≡ None
none_unless None h = refl
none_unless (Some live) h = absurd (let no : true ≡ false = h refl in cc)

pub no_next : (m : map.BTreeMap ByTree Live) (tree : ℕ) (after : Option ℕ) (r : List (ByTree × Live)) → IsRangeOf by_tree (start_of tree after) Unbounded m r → r ≡ [] → IsNextOf (pairs_in m) tree after None
unfolding pairs_in
no_next m tree after r range is = λ a h. range.5 is (place_of tree a) (from_start tree after a h, tt)

pub next_other : (m : map.BTreeMap ByTree Live) (tree : ℕ) (after : Option ℕ) (r : List (ByTree × Live)) → IsRangeOf by_tree (start_of tree after) Unbounded m r
    → (e : ByTree × Live) (rest : List (ByTree × Live)) → r ≡ e ∷ rest → (e.0.tree == tree) ≡ false → IsNextOf (pairs_in m) tree after None
unfolding pairs_in
next_other m tree after r range e rest is apart =
    let here : IsRangeOf by_tree (start_of tree after) Unbounded m (e ∷ rest) = subst (IsRangeOf by_tree (start_of tree after) Unbounded m) is range in
    λ a h. none_unless _ (λ had. sym (later_tree tree after e.0 a here.1.0.0 apart) ∙ here.2 (place_of tree a) (from_start tree after a h, tt) had)

pub next_here : (m : map.BTreeMap ByTree Live) (tree : ℕ) (after : Option ℕ) (r : List (ByTree × Live)) → AreOwn (pairs_in m) → IsRangeOf by_tree (start_of tree after) Unbounded m r
    → (e : ByTree × Live) (rest : List (ByTree × Live)) → r ≡ e ∷ rest → e.0.tree ≤ tree → IsNextOf (pairs_in m) tree after (Some e.1)
unfolding pairs_in
next_here m tree after r owns range e rest is low =
    let here : IsRangeOf by_tree (start_of tree after) Unbounded m (e ∷ rest) = subst (IsRangeOf by_tree (start_of tree after) Unbounded m) is range in
    let same : e.0.tree ≡ tree = same_tree tree after e.0 here.1.0.0 low in
    let stands : pairs_in m e.0.tree e.0.address ≡ Some e.1 = here.1.1 in
    let own : (e.1.tree ≡ e.0.tree) × (e.1.address ≡ e.0.address) = owns e.0.tree e.0.address e.1 stands in (
      one_place (pairs_in m) e.1.tree e.1.address e.0.tree e.0.address own.0 own.1 ∙ stands,
      own.0 ∙ same,
      ap (is_above after) own.1 ∙ above_start tree after e.0 here.1.0.0 same,
      λ a h less. none_unless _ (λ had.
          sym (later_address e.0 tree a same (subst (λ x. a < x) own.1 less)) ∙ here.2 (place_of tree a) (from_start tree after a h, tt) had),
    )

-- ---- what a refused addition leaves

pub pairs_back : (m n l : map.BTreeMap ByTree Live) (k j : ByTree) (new : Live) → k ≡ place_of new.tree new.address → j ≡ place_of new.tree new.address
    → pairs_in m new.tree new.address ≡ None → map.Updates by_tree m n k (Some new) → map.UpdatesBy by_tree (by_tree j) n l None → pairs_in l ≡ pairs_in m
pairs_back m n l k j new is also none put taken =
    pairs_taken n l j new.tree new.address also taken
    ∙ ap (λ p. without_pair p new.tree new.address) (pairs_put m n k new.tree new.address new is refl refl put)
    ∙ undone (pairs_in m) new none

pub pairs_restored : {E : Type 0} (m n l : map.BTreeMap ByTree Live) (k : ByTree) (was new : Live) (r : Result (Option Live) E)
    → k ≡ place_of new.tree new.address → pairs_in m new.tree new.address ≡ Some was → AreOwn (pairs_in m) → map.Updates by_tree m n k (Some new)
    → OnOk r (map.Updates by_tree n l k (Some was)) → OnErr r (map.get by_tree n k ≡ None) → pairs_in l ≡ pairs_in m
pairs_restored m n l k was new (Ok old) is there owns put back absent =
    let own : (was.tree ≡ new.tree) × (was.address ≡ new.address) = owns new.tree new.address was there in
    pairs_put n l k new.tree new.address was is own.0 own.1 back
    ∙ ap (λ p. with_pair p was) (pairs_put m n k new.tree new.address new is refl refl put)
    ∙ put_back (pairs_in m) was new own.0 own.1 there
pairs_restored m n l k was new (Err e) is there owns put back absent = absurd (let no : Some new ≡ None = sym put.1 ∙ absent in cc)

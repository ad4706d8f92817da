-- All that changed, with the marked pairs that are left, is all that is not shared.
use Rattle.std.proofs.Common.{◌≡◌, ℕ, ◌==◌, ◌+◌, ◌*◌, ◌≤◌, Bool, true, false, not, ◌&&◌, ◌||◌, List, ◌++◌, length, length-append, refl, sym, subst, ◌∙◌, arith, append_assoc}
use Rattle.std.proofs.lemmas.Bool.Decides.{nat_tests}
use Rattle.std.proofs.lemmas.List.Sorted.{IsPermutation-append, IsPermutation-filter_both, IsPermutation-sym, IsPermutation-trans}
use Rattle.std.specs.Prelude.{nat_lt}
use Rattle.std.specs.List.{filter, filter_map}
use Rattle.std.specs.List.Sorted.{IsPermutation}
use Rattle.std.specs.Ordering.{nat_cmp}
use Rattle.std.specs.FinMap.{FinMap}
use Rattle.write_cache.specs.Cache.{overlaid}
use Rattle.live_index.specs.Pairs.{Pairs}
use Rattle.live_index.specs.declared.live.Live.{Live}
use Rattle.touched_blocks.specs.Marks.{Marked}
use Rattle.touched_blocks.specs.Touched.{written_in}
use Rattle.touched_blocks.specs.declared.marks.PairPlace.{PairPlace}
use Rattle.tree_laws.specs.LivePairs.{Walked, live_in, table_of}
use Rattle.tree_laws.specs.MergedLaw.{IsInOrder}
use Rattle.tree_laws.specs.Shared.{unshared_in}
use Rattle.tree_laws.specs.SharedLaw.{HasTrees}
use Rattle.tree_laws.specs.ShiftedLaw.{is_shifted, shifted_in}
use Rattle.tree_laws.specs.TableLaw.{Tree}
use Rattle.tree_laws.specs.Unshared.{items_in}
use Rattle.tree_laws.proofs.Treed.{trees_walk}
use Rattle.tree_change.specs.AllTrees.{AreAllParts}
use Rattle.tree_change.specs.Change.{is_before, item_before}
use Rattle.tree_change.specs.Merging.{IsSortedOf}
use Rattle.tree_change.specs.Rising.{AreAllUnshared, IsRisen, MarksAll, is_left, is_marked, risen_at, unmoved_at, with_risen}
use Rattle.tree_change.specs.Unchanged.{changed_in, unchanged_shifted}
use Rattle.tree_change.specs.Walks.{Parts}
use Rattle.tree_change.proofs.Apart.{pairs_apart}
use Rattle.tree_change.proofs.RisenLists.{filter_permuted, filter_twice, length_each, some_order, split_marked}
use Rattle.tree_change.proofs.RisenPairs.{new_unmoved, old_risen, risen_counts}
use Rattle.tree_change.proofs.RisenShared.{shared, shared_is, unchanged}
use Rattle.tree_change.proofs.Unordered.{in_order}

-- the order of pairs
one_way : (a b : Live) → is_before a b ≡ true → is_before b a ≡ false
one_way a b is = by a.address b.address a.tree b.tree is
  where
    by : (m n t u : ℕ) → (nat_lt m n || (m == n && nat_lt t u)) ≡ true → (nat_lt n m || (n == m && nat_lt u t)) ≡ false
    by m n t u is = grind (arith, nat_tests)

-- it is one of all pairs
chained : (a b c : Live) → is_before b a ≡ false → is_before c b ≡ false → is_before c a ≡ false
chained a b c p q = by a.address b.address c.address a.tree b.tree c.tree p q
  where
    by : (m n o t u v : ℕ) → (nat_lt n m || (n == m && nat_lt u t)) ≡ false → (nat_lt o n || (o == n && nat_lt v u)) ≡ false
        → (nat_lt o m || (o == m && nat_lt v t)) ≡ false
    by m n o t u v p q = grind (arith, nat_tests)

module _ (image : List ℕ) (pending : FinMap nat_cmp ℕ) (old new : Walked) (trees afters : List Tree) (pairs : Pairs) (marked : Marked)
    (places : List PairPlace) (parts made : Parts) (before after : ℕ)
    (was : HasTrees image old trees) (is : HasTrees (overlaid pending 0 image) new afters)
    (pairs_are : (tree address : ℕ) → pairs tree address ≡ table_of (live_in old.seen) tree address)
    (marks : MarksAll image pending old new trees pairs marked) (from : IsRisen pairs marked places parts made before after)
    (all : AreAllParts old new pending (length image) parts) where
  -- pairs that stay as they are, that are shared, that are marked, and of which the node above or the greatest key is another
  abbrev U : Live → Bool
  U = unchanged image pending old new

  abbrev S : Live → Bool
  S = shared image pending old new

  abbrev M : Live → Bool
  M = is_marked marked

  abbrev shifts : Live → Bool
  shifts = is_shifted (live_in old.seen)

  -- a pair is shared where it stays as it is and is not marked
  told : (live : Live) → S live ≡ (U live && not (M live))
  told live = shared_is image pending old new trees was marked marks.trees_are live

  -- the shifted pairs of the parts, in whatever order they are
  moved_are : IsPermutation (unchanged_shifted old new (written_in pending) (length image)) parts.shifted
  moved_are =
      let some = some_order is_before one_way chained parts.shifted in
      IsPermutation-trans (unchanged_shifted old new (written_in pending) (length image)) some.0 parts.shifted
      (all.shifted some.0 (record { all = some.1; ascends = some.2 })).all (IsPermutation-sym parts.shifted some.0 some.1)

  -- the old pairs that are not shared
  old_blocks : IsPermutation (unshared_in old new (written_in pending) (length image) old)
      (parts.old_blocks ++ filter_map (risen_at pairs parts.old_blocks) places)
  old_blocks =
      let P = live_in old.seen in
      let risen = filter_map (risen_at pairs parts.old_blocks) places in
      IsPermutation-trans (filter (λ live. not (S live)) P) (filter (λ live. not (U live)) P ++ filter (λ live. U live && M live) P)
      (parts.old_blocks ++ risen)
      (split_marked S U M told P)
      (IsPermutation-append (filter (λ live. not (U live)) P) parts.old_blocks (filter (λ live. U live && M live) P) risen all.old_blocks
      (old_risen image pending old new trees afters was is pairs marked places pairs_are marks.known from.each from.order parts.old_blocks
      all.old_blocks))

  -- the new pairs that are marked and stay as they are: those that shifted and the others
  new_risen : IsPermutation (filter (λ live. U live && M live) (live_in new.seen))
      (filter M parts.shifted ++ filter_map (unmoved_at pairs parts.old_blocks parts.shifted) places)
  new_risen =
      let N = live_in new.seen in
      let R = λ (live : Live). U live && M live in
      let rest = filter_map (unmoved_at pairs parts.old_blocks parts.shifted) places in
      let first : filter shifts (filter R N) ≡ filter M (filter (λ live. U live && shifts live) N) =
      filter_twice shifts R (λ live. R live && shifts live) (λ live. refl) N
      ∙ sym (filter_twice M (λ live. U live && shifts live) (λ live. R live && shifts live) (λ live. turned (U live) (shifts live) (M live)) N) in
      let later : filter (λ live. not (shifts live)) (filter R N) ≡ filter (λ live. R live && not (shifts live)) N =
      filter_twice (λ live. not (shifts live)) R (λ live. R live && not (shifts live)) (λ live. refl) N in
      IsPermutation-trans (filter R N) (filter shifts (filter R N) ++ filter (λ live. not (shifts live)) (filter R N)) (filter M parts.shifted ++ rest)
      (IsPermutation-filter_both shifts (λ live. not (shifts live)) (λ live. refl) (filter R N))
      (IsPermutation-append (filter shifts (filter R N)) (filter M parts.shifted) (filter (λ live. not (shifts live)) (filter R N)) rest
      (subst (λ ys. IsPermutation ys (filter M parts.shifted)) (sym first)
      (filter_permuted M (filter (λ live. U live && shifts live) N) parts.shifted moved_are))
      (subst (λ ys. IsPermutation ys rest) (sym later)
      (new_unmoved image pending old new trees afters was is pairs marked places pairs_are marks.known from.each from.order parts.old_blocks
      all.old_blocks parts.shifted moved_are)))
    where
      turned : (u s m : Bool) → ((u && s) && m) ≡ ((u && m) && s)
      turned false s m = refl
      turned true true true = refl
      turned true true false = refl
      turned true false true = refl
      turned true false false = refl

  -- the new pairs that are not shared
  new_blocks : IsPermutation (unshared_in old new (written_in pending) (length image) new)
      ((parts.new_blocks ++ filter M parts.shifted) ++ filter_map (unmoved_at pairs parts.old_blocks parts.shifted) places)
  new_blocks =
      let N = live_in new.seen in
      let rest = filter_map (unmoved_at pairs parts.old_blocks parts.shifted) places in
      subst (IsPermutation (filter (λ live. not (S live)) N)) (sym (append_assoc parts.new_blocks (filter M parts.shifted) rest))
      (IsPermutation-trans (filter (λ live. not (S live)) N) (filter (λ live. not (U live)) N ++ filter (λ live. U live && M live) N)
      (parts.new_blocks ++ (filter M parts.shifted ++ rest))
      (split_marked S U M told N)
      (IsPermutation-append (filter (λ live. not (U live)) N) parts.new_blocks (filter (λ live. U live && M live) N) (filter M parts.shifted ++ rest)
      all.new_blocks new_risen))

  -- the shifted pairs that are not marked are those that are shared
  moved : (sorted : List Live) → IsSortedOf is_before (filter (λ live. not (M live)) parts.shifted) sorted
      → IsInOrder is_before (shifted_in old new (written_in pending) (length image)) sorted
  moved sorted sort =
      let N = live_in new.seen in
      let walk = trees_walk (overlaid pending 0 image) new afters is in
      in_order is_before (filter (λ live. S live && shifts live) N) (filter (λ live. not (M live)) parts.shifted) sorted
      (subst (λ ys. IsPermutation ys (filter (λ live. not (M live)) parts.shifted))
      (filter_twice (λ live. not (M live)) (λ live. U live && shifts live) (λ live. S live && shifts live)
      (λ live. turned (S live) (U live) (M live) (shifts live) (told live)) N)
      (filter_permuted (λ live. not (M live)) (filter (λ live. U live && shifts live) N) parts.shifted moved_are))
      sort (pairs_apart new.sup afters new.seen (λ live. S live && shifts live) walk.0 walk.1)
    where
      turned : (s u m t : Bool) → s ≡ (u && not m) → ((u && t) && not m) ≡ (s && t)
      turned s u m true is = joined u m ∙ (sym is ∙ sym (and_true s))
        where
          joined : (u m : Bool) → ((u && true) && not m) ≡ (u && not m)
          joined true m = refl
          joined false m = refl

          and_true : (b : Bool) → (b && true) ≡ b
          and_true true = refl
          and_true false = refl
      turned s u m false is = joined u m ∙ sym (and_false s)
        where
          joined : (u m : Bool) → ((u && false) && not m) ≡ false
          joined true m = refl
          joined false m = refl

          and_false : (b : Bool) → (b && false) ≡ false
          and_false true = refl
          and_false false = refl

  -- no more are counted than are not shared
  counted : parts.count
      ≤ length (parts.old_blocks ++ filter_map (risen_at pairs parts.old_blocks) places)
      + 2 * length ((parts.new_blocks ++ filter M parts.shifted) ++ filter_map (unmoved_at pairs parts.old_blocks parts.shifted) places)
  counted =
      let risen = filter_map (risen_at pairs parts.old_blocks) places in
      let rest = filter_map (unmoved_at pairs parts.old_blocks parts.shifted) places in
      let a = length-append parts.old_blocks risen in
      let b = length-append (parts.new_blocks ++ filter M parts.shifted) rest in
      let c = length-append parts.new_blocks (filter M parts.shifted) in
      let d = all.count in
      omega (arith, a, b, c, d)

  -- a look was taken for each pair that is added
  looked : after + length parts.old_blocks ≤ before + length (parts.old_blocks ++ filter_map (risen_at pairs parts.old_blocks) places)
  looked =
      let a = length-append parts.old_blocks (filter_map (risen_at pairs parts.old_blocks) places) in
      let b = length_each (is_left parts.old_blocks) (risen_at pairs parts.old_blocks) places
      (risen_counts image pending old new trees afters was is pairs marked places pairs_are marks.known from.each from.order parts.old_blocks
      all.old_blocks) in
      let c = from.looks in
      omega (arith, a, b, c)

  module _ (old_same : items_in (unshared_in old new (written_in pending) (length image) old) old.seen
      ≡ items_in (changed_in old new (written_in pending) (length image) old) old.seen)
      (new_same : items_in (unshared_in old new (written_in pending) (length image) new) new.seen
      ≡ items_in (changed_in old new (written_in pending) (length image) new) new.seen) where
    -- the parts with the marked pairs that are left
    unshared : AreAllUnshared old new pending (length image) (with_risen pairs marked places parts)
    unshared = record {
      old_blocks = old_blocks;
      new_blocks = new_blocks;
      shifted = moved;
      old_items = λ sorted sort. subst (λ items. IsInOrder item_before items sorted) (sym old_same) (all.old_items sorted sort);
      new_items = λ sorted sort. subst (λ items. IsInOrder item_before items sorted) (sym new_same) (all.new_items sorted sort);
      count = counted;
    }

    -- All that is not shared, where the items of the pairs that changed are those of the pairs that are not shared.
    pub risen : AreAllUnshared old new pending (length image) made × (after + length parts.old_blocks ≤ before + length made.old_blocks)
    risen =
        subst
        (λ (m : Parts). AreAllUnshared old new pending (length image) m × (after + length parts.old_blocks ≤ before + length m.old_blocks))
        (sym from.made_is) (unshared, looked)

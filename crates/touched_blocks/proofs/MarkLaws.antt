-- Sets of marks: which places are alike, and what a set has after one more.
use Rattle.std.proofs.Common.{◌≡◌, ℕ, ◌+◌, Bool, true, false, not, cond, ◌&&◌, ◌||◌, ◌==◌, List, [], ◌∷◌, refl, ap, ◌∙◌, arith}
use Rattle.std.specs.List.{list_any}
use Rattle.std.proofs.lemmas.Bool.Decides.{nat_tests}
use Rattle.std.specs.Ordering.{nat_cmp}
use Rattle.std.specs.Cmp.{unsigned_tied}
use Rattle.std.specs.BTreeMap.{is_at}
use Rattle.std.specs.BTreeSet as set
use Rattle.verdict.proofs.Truth.{then_tied, and_alike}
use Rattle.touched_blocks.specs.declared.marks.Marks.{Marks}
use Rattle.touched_blocks.specs.declared.marks.PairPlace.{PairPlace}
use Rattle.touched_blocks.specs.Marks.{by_pair, count_of, marked_by, marked_in, pair_place, with_mark}

pub tied : (k q : PairPlace) → is_at (by_pair k) q ≡ (k.tree == q.tree && k.address == q.address)
tied k q = then_tied (nat_cmp k.tree q.tree) (nat_cmp k.address q.address) ∙ and_alike _ _ _ _ (unsigned_tied k.tree q.tree) (unsigned_tied k.address q.address)

pub put_mark : (old new : Marks) (tree address : ℕ) (k : PairPlace) → k ≡ pair_place tree address → set.UpdatesBy by_pair (by_pair k) old.places new.places true
    → (t a : ℕ) → marked_by new t a ≡ with_mark (marked_by old) tree address t a
unfolding marked_by
put_mark old new tree address k is updates t a =
    updates.0 (pair_place t a)
    ∙ ap (λ b. cond b true (set.contains by_pair old.places (pair_place t a)))
    (tied k (pair_place t a) ∙ ap (λ x. x.tree == t && x.address == a) is)

-- a set is one greater where the place is new
pub put_count : (old new : Marks) (tree address : ℕ) (k : PairPlace) (added : Bool) → k ≡ pair_place tree address → added ≡ not (set.contains by_pair old.places k)
    → set.btree_set_len new.places ≡ set.btree_set_len old.places + cond added 1 0 → count_of new ≡ count_of old + cond (marked_by old tree address) 0 1
unfolding count_of marked_by
put_count old new tree address k added is new_one len =
    len
    ∙ ap (λ b. set.btree_set_len old.places + cond b 1 0) (new_one ∙ ap (λ x. not (set.contains by_pair old.places x)) is)
    ∙ turn (set.contains by_pair old.places (pair_place tree address)) (set.btree_set_len old.places)
  where
    turn : (b : Bool) (n : ℕ) → n + cond (not b) 1 0 ≡ n + cond b 0 1
    turn true n = refl
    turn false n = refl

turned : (m n : ℕ) → (m == n) ≡ (n == m)
turned m n = grind (arith, nat_tests)

-- a place is marked where the list of places has it
pub listed_marks : (places : List PairPlace) (tree address : ℕ) → list_any (is_at (by_pair (pair_place tree address))) places ≡ marked_in places tree address
listed_marks [] tree address = refl
listed_marks (place ∷ places) tree address =
    ap (λ b. b || list_any (is_at (by_pair (pair_place tree address))) places)
    (tied (pair_place tree address) place ∙ and_alike _ _ _ _ (turned tree place.tree) (turned address place.address))
    ∙ ap (λ b. (place.tree == tree && place.address == address) || b) (listed_marks places tree address)

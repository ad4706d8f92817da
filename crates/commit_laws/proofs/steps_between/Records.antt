-- What two images hold alike, with blocks and items apart; and that images which are not read alike hold nothing alike.
use Rattle.std.proofs.Common.{◌≡◌, ℕ, Bool, false, not, ◌&&◌, List, [], ◌∷◌, ◌++◌, length, refl, ap, sym, subst, ◌∙◌}
use Rattle.std.proofs.lemmas.List.{append-nil}
use Rattle.std.proofs.lemmas.List.Sorted.{IsPermutation-append_right, IsPermutation-append, IsPermutation-cons, IsPermutation-map}
use Rattle.std.proofs.lemmas.List.Sorted.{IsPermutation-refl, IsPermutation-trans}
use Rattle.std.specs.Prelude.{Ok, map}
use Rattle.std.specs.List.{AllByRecursion, filter, flat_map, list_any}
use Rattle.std.specs.List.Sorted.{IsPermutation}
use Rattle.std.specs.Ordering.{nat_cmp}
use Rattle.std.specs.FinMap.{FinMap}
use Rattle.write_cache.specs.Cache.{overlaid}
use Rattle.live_index.specs.declared.live.Live.{Live}
use Rattle.records.specs.Contents.{super_record}
use Rattle.records.specs.Part.{Located}
use Rattle.touched_blocks.specs.Touched.{Written, stays_in_place, touches_block, written_in}
use Rattle.tree_laws.specs.LivePairs.{Walked, live_in, walked}
use Rattle.tree_laws.specs.MergedLaw.{items}
use Rattle.tree_laws.specs.Shared.{are_alike, are_read_alike, is_shared, is_shared_by, stands_untouched, unshared_in}
use Rattle.tree_laws.specs.Unshared.{items_in}
use Rattle.tree_laws.proofs.Trails.{Visit}
use Rattle.commit_laws.specs.Items.{items_of}
use Rattle.commit_laws.specs.Same.{live_record, records_at, records_of}
use Rattle.commit_laws.specs.Steps.{change_records}
use Rattle.commit_laws.proofs.Elements.{flat_tested, same_elements}
use Rattle.commit_laws.proofs.Found.{found_of, items_all, items_at, pair_at, seen_at, stored_of}
use Rattle.commit_laws.proofs.Records.{as_is, back, distinct_of, into, left, left_items, lives, news, olds, parted, staying, test, visits}
use Rattle.commit_laws.proofs.steps_between.Flat.{flat_parts}

-- a block's record
abbrev pub IsBlock : Located → Type 0
IsBlock one = (live : Live) × (one ≡ live_record live)

-- What two images hold alike, but for what is gone and what came: blocks and items.
pub record HoldApart (old new : Walked) (gone came : List Live) : Type 0 where
  pub blocks : List Located
  pub items : List Located
  pub are_blocks : AllByRecursion IsBlock blocks
  pub old_records : IsPermutation (records_of old) (records_at gone old ++ (blocks ++ items))
  pub new_records : IsPermutation (records_of new) (records_at came new ++ (blocks ++ items))
  pub old_items : IsPermutation (items_of old) (items_in gone old.seen ++ items)
  pub new_items : IsPermutation (items_of new) (items_in came new.seen ++ items)

-- the first of what is seen of a block, its record, and the others, its items
abbrev first_of : List Located → List Located
first_of [] = []
first_of (one ∷ found) = one ∷ []

abbrev others_of : List Located → List Located
others_of [] = []
others_of (one ∷ found) = found

-- what is seen of blocks, the blocks apart
apart : (some : List (List Located)) → IsPermutation (flat_map as_is some) (flat_map first_of some ++ flat_map others_of some)
apart some =
    subst (λ all. IsPermutation all (flat_map first_of some ++ flat_map others_of some)) (joined some) (flat_parts first_of others_of some)
  where
    both : (found : List Located) → first_of found ++ others_of found ≡ as_is found
    both [] = refl
    both (one ∷ found) = refl

    joined : (more : List (List Located)) → flat_map (λ found. first_of found ++ others_of found) more ≡ flat_map as_is more
    joined [] = refl
    joined (found ∷ more) = λ i. both found i ++ joined more i

-- the items of an image, by a test of its live pairs: those of the pairs that fail it, and the others
module _ (image : List ℕ) (whole : Walked) (is : walked image ≡ Ok whole) (shared : Live → Bool) where
  flat_others : (some : List Visit)
      → flat_map (items_at whole.sup (stored_of image whole)) some ≡ flat_map others_of (map (seen_at whole.sup (stored_of image whole)) some)
  flat_others [] = refl
  flat_others (v ∷ some) = ap (λ more. items_at whole.sup (stored_of image whole) v ++ more) (flat_others some)

  items_parted : (same : List Located) → IsPermutation (flat_map others_of (staying image whole is shared)) same
      → IsPermutation (items_of whole) (items_in (lives image whole is shared) whole.seen ++ same)
  items_parted same perm =
      let found_at = items_at whole.sup (stored_of image whole) in
      let all = visits image whole is shared in
      let passing = flat_map found_at (filter (test image whole is shared) all) in
      let failing = flat_map found_at (left image whole is shared) in
      let they : items_of whole ≡ flat_map found_at all =
      ap items (sym (found_of image whole is).blocks.all) ∙ items_all whole.sup (stored_of image whole) all in
      let split : IsPermutation (flat_map found_at all) (failing ++ passing) = flat_tested found_at (test image whole is shared) all in
      let stay : IsPermutation passing same =
      subst (λ xs. IsPermutation xs same) (sym (flat_others (filter (test image whole is shared) all))) perm in
      subst (λ xs. IsPermutation xs (items_in (lives image whole is shared) whole.seen ++ same)) (sym they)
      (subst (λ xs. IsPermutation (flat_map found_at all) (xs ++ same)) (sym (left_items image whole is shared))
      (IsPermutation-trans (flat_map found_at all) (failing ++ passing) (failing ++ same) split
      (IsPermutation-append_right failing passing same stay)))

  blocks_are : AllByRecursion IsBlock (flat_map first_of (staying image whole is shared))
  blocks_are = each (filter (test image whole is shared) (visits image whole is shared))
    where
      each : (some : List Visit) → AllByRecursion IsBlock (flat_map first_of (map (seen_at whole.sup (stored_of image whole)) some))
      each [] = tt
      each (v ∷ some) = ((pair_at whole.sup (stored_of image whole) v, refl), each some)

module _ (image : List ℕ) (pending : FinMap nat_cmp ℕ) (old new : Walked) (was : walked image ≡ Ok old)
    (is : walked (overlaid pending 0 image) ≡ Ok new) where
  abbrev alike : Live → Bool
  alike = is_shared old new (written_in pending) (length image)

  abbrev given : (List Located → List Located) → List Located
  given give = flat_map give (news image pending old new was is)

  same_given : (give : List Located → List Located) → IsPermutation (flat_map give (olds image pending old new was is)) (given give)
  same_given give =
      same_elements give (olds image pending old new was is) (news image pending old new was is)
      (distinct_of image pending old new was is image old was) (distinct_of image pending old new was is (overlaid pending 0 image) new is)
      (into image pending old new was is) (back image pending old new was is)

  pub hold_apart : HoldApart old new (unshared_in old new (written_in pending) (length image) old)
      (unshared_in old new (written_in pending) (length image) new)
  hold_apart = record {
    blocks = given first_of;
    items = given others_of;
    are_blocks = blocks_are (overlaid pending 0 image) new is alike;
    old_records = parted image old was alike (given first_of ++ given others_of)
        (IsPermutation-trans (flat_map as_is (olds image pending old new was is)) (given as_is) (given first_of ++ given others_of)
        (same_given as_is) (apart (news image pending old new was is)));
    new_records = parted (overlaid pending 0 image) new is alike (given first_of ++ given others_of) (apart (news image pending old new was is));
    old_items = items_parted image old was alike (given others_of) (same_given others_of);
    new_items = items_parted (overlaid pending 0 image) new is alike (given others_of) (IsPermutation-refl (given others_of));
  }

-- ---- images that are not read alike

none_pass : {X : Type 0} (pass : X → Bool) → ((x : X) → pass x ≡ false) → (xs : List X) → filter pass xs ≡ []
none_pass pass none [] = refl
none_pass pass none (x ∷ xs) = rw (none x) (none_pass pass none xs)

pub none_shared : (old new : Walked) (written : Written) (end : ℕ) → are_read_alike old.sup new.sup ≡ false → (live : Live)
    → is_shared old new written end live ≡ false
unfolding is_shared_by
none_shared old new written end other live =
    ap (λ b. b && (stays_in_place old.chunks new.chunks old.sup.nodesize end live.address
    && (stands_untouched (touches_block written old.chunks old.sup.nodesize end) old.seen live
    && list_any (are_alike live) (live_in new.seen)))) other

-- where no pair passes the test, all records are those of the pairs
pub all_parted : (image : List ℕ) (whole : Walked) (is : walked image ≡ Ok whole) (shared : Live → Bool) → ((live : Live) → shared live ≡ false)
    → IsPermutation (records_of whole) (records_at (filter (λ live. not (shared live)) (live_in whole.seen)) whole)
all_parted image whole is shared none =
    let lost : staying image whole is shared ≡ [] =
    ap (map (seen_at whole.sup (stored_of image whole)))
    (none_pass (test image whole is shared) (λ v. none (pair_at whole.sup (stored_of image whole) v)) (visits image whole is shared)) in
    subst (λ right. IsPermutation (records_of whole) right) (append-nil (records_at (filter (λ live. not (shared live)) (live_in whole.seen)) whole))
    (parted image whole is shared [] (subst (λ some. IsPermutation (flat_map as_is some) []) (sym lost) (IsPermutation-refl [])))

-- the records of some pairs and items, and those of the same in another order
pub records_changed : (whole : Walked) (pairs blocks : List Live) (found : List Located) → IsPermutation pairs blocks
    → IsPermutation (items_in pairs whole.seen) found → IsPermutation (records_at pairs whole) (change_records whole.sup blocks found)
unfolding records_at
records_changed whole pairs blocks found by_blocks by_items =
    IsPermutation-cons (super_record whole.sup) (map live_record pairs ++ items_in pairs whole.seen) (map live_record blocks ++ found)
    (IsPermutation-append (map live_record pairs) (map live_record blocks) (items_in pairs whole.seen) found
    (IsPermutation-map live_record pairs blocks by_blocks) by_items)

-- The records of two images are the same, but for the superblock's and those of the pairs that are not shared.
use Rattle.std.proofs.Common.{◌≡◌, ℕ, Bool, true, not, List, [], ◌∷◌, ◌++◌, length, refl, ap, sym, subst, ◌∙◌}
use Rattle.std.proofs.lemmas.List.Sorted.{IsPermutation-append_left, IsPermutation-append_right, IsPermutation-cons}
use Rattle.std.proofs.lemmas.List.Sorted.{IsPermutation-refl, IsPermutation-trans}
use Rattle.std.specs.Prelude.{Ok, map}
use Rattle.std.specs.List.{AllByRecursion, AllPairs, filter, filter_map, flat_map, list_any}
use Rattle.std.specs.List.Sorted.{IsPermutation}
use Rattle.std.specs.Ordering.{nat_cmp}
use Rattle.std.specs.FinMap.{FinMap}
use Rattle.verdict.proofs.Lists.{all_map}
use Rattle.write_cache.specs.Cache.{overlaid}
use Rattle.live_index.specs.declared.live.Live.{Live}
use Rattle.node_reader.specs.Stored.{Stored}
use Rattle.records.specs.Contents.{super_record}
use Rattle.records.specs.Part.{Located}
use Rattle.records.specs.Seen.{accounted}
use Rattle.touched_blocks.specs.Touched.{written_in}
use Rattle.tree_laws.specs.LivePairs.{Walked, live_in, walked}
use Rattle.tree_laws.specs.MergedLaw.{items}
use Rattle.tree_laws.specs.Shared.{are_alike, is_shared}
use Rattle.tree_laws.specs.Unshared.{items_in}
use Rattle.tree_laws.specs.SharedLaw.{stays_between, touches_old}
use Rattle.tree_laws.proofs.OldTells.{shared_alike}
use Rattle.tree_laws.proofs.Trails.{Visit}
use Rattle.tree_change.proofs.Apart.{either_pair, pairs_apart}
use Rattle.tree_change.proofs.Split.{items_filter, stands_in}
use Rattle.commit_laws.specs.Same.{HoldSame, RecordsLaw, live_record, records_at, records_of}
use Rattle.commit_laws.proofs.Alike.{IsShared, block_same, shared_is}
use Rattle.commit_laws.proofs.Elements.{Among, Distinct, flat_heads, flat_tested, same_elements}
use Rattle.commit_laws.proofs.Found.{Found, Owns, accounts_all, found_of, items_all, items_at, pair_at, seen_at, stand_at, stored_of}
use Rattle.commit_laws.proofs.Separate.{Separate, Stand, Told, among_if, distinct_whole, fresh, fresh_found, fresh_pairs, picked, separate_of, told_all}

-- a list of lists, as one
abbrev pub as_is : List Located → List Located
as_is found = found

all_pass : {X : Type 0} (xs : List X) → filter (λ x. true) xs ≡ xs
all_pass [] = refl
all_pass (x ∷ xs) = ap (λ ys. x ∷ ys) (all_pass xs)

-- the records of an image, by a test of its live pairs: those of the pairs that fail it, and what is seen of the other blocks
module _ (image : List ℕ) (whole : Walked) (is : walked image ≡ Ok whole) (shared : Live → Bool) where
  abbrev stored : Stored
  stored = stored_of image whole

  abbrev pair : Visit → Live
  pair = pair_at whole.sup stored

  abbrev found : Found image whole
  found = found_of image whole is

  abbrev pub visits : List Visit
  visits = found.blocks.visits

  pub separate : Separate (map pair visits)
  separate =
      subst Separate found.blocks.pairs
      (separate_of (live_in whole.seen)
      (subst (AllPairs (λ a b. either_pair a b ≡ true)) (all_pass (live_in whole.seen))
      (pairs_apart whole.sup found.trees whole.seen (λ live. true) found.apart found.walk)))

  abbrev pub test : Visit → Bool
  test v = shared (pair v)

  -- what accounts see of the blocks of which the pairs pass the test
  abbrev pub staying : List (List Located)
  staying = map (seen_at whole.sup stored) (filter test visits)

  abbrev pub left : List Visit
  left = filter (λ v. not (test v)) visits

  abbrev pub lives : List Live
  lives = filter (λ live. not (shared live)) (live_in whole.seen)

  told : AllByRecursion (Told shared (live_in whole.seen)) (map pair visits)
  told = subst (AllByRecursion (Told shared (live_in whole.seen))) found.blocks.pairs
      (told_all shared (live_in whole.seen) (subst Separate (sym found.blocks.pairs) separate))

  pub left_items : items_in lives whole.seen ≡ flat_map (items_at whole.sup stored) left
  left_items =
      items_filter lives whole.seen
      ∙ (ap (λ seen. filter (stands_in lives) (items seen)) (sym found.blocks.all)
      ∙ (ap (filter (stands_in lives)) (items_all whole.sup stored visits)
      ∙ fresh_found pair (items_at whole.sup stored) shared (live_in whole.seen) visits
      (all_map (Owns whole.sup stored) (Stand pair (items_at whole.sup stored)) visits (stand_at whole.sup stored) found.blocks.own) told))

  left_pairs : map live_record lives ≡ map (λ v. live_record (pair v)) left
  left_pairs =
      ap (λ some. map live_record (fresh shared some)) found.blocks.pairs
      ∙ fresh_pairs pair (items_at whole.sup stored) shared visits

  accounts : filter_map accounted whole.seen ≡ flat_map (seen_at whole.sup stored) visits
  accounts = ap (filter_map accounted) (sym found.blocks.all) ∙ accounts_all whole.sup stored visits found.blocks.own

  flat_flat : (some : List Visit) → flat_map (seen_at whole.sup stored) some ≡ flat_map as_is (map (seen_at whole.sup stored) some)
  flat_flat [] = refl
  flat_flat (v ∷ some) = ap (λ more. seen_at whole.sup stored v ++ more) (flat_flat some)

  pub parted : (same : List Located) → IsPermutation (flat_map as_is staying) same
      → IsPermutation (records_of whole) (records_at lives whole ++ same)
  unfolding records_of records_at
  parted same perm =
      let see = seen_at whole.sup stored in
      let found_at = items_at whole.sup stored in
      let head = λ (v : Visit). live_record (pair v) in
      let failing = map head left ++ flat_map found_at left in
      let passing = flat_map see (filter test visits) in
      let split : IsPermutation (flat_map see visits) (flat_map see left ++ passing) = flat_tested see test visits in
      let heads : IsPermutation (flat_map see left) failing = flat_heads head found_at left in
      let stay : IsPermutation passing same = subst (λ xs. IsPermutation xs same) (sym (flat_flat (filter test visits))) perm in
      let all : IsPermutation (flat_map see visits) (failing ++ same) =
      IsPermutation-trans (flat_map see visits) (flat_map see left ++ passing) (failing ++ same) split
      (IsPermutation-trans (flat_map see left ++ passing) (failing ++ passing) (failing ++ same)
      (IsPermutation-append_left passing (flat_map see left) failing heads)
      (IsPermutation-append_right failing passing same stay)) in
      let same_left : failing ≡ map live_record lives ++ items_in lives whole.seen =
      ap (λ ls. ls ++ flat_map found_at left) (sym left_pairs) ∙ ap (λ ls. map live_record lives ++ ls) (sym left_items) in
      IsPermutation-cons (super_record whole.sup) (filter_map accounted whole.seen) ((map live_record lives ++ items_in lives whole.seen) ++ same)
      (subst (λ xs. IsPermutation xs ((map live_record lives ++ items_in lives whole.seen) ++ same)) (sym accounts)
      (subst (λ xs. IsPermutation (flat_map see visits) (xs ++ same)) same_left all))

module _ (image : List ℕ) (pending : FinMap nat_cmp ℕ) (old new : Walked) (was : walked image ≡ Ok old)
    (is : walked (overlaid pending 0 image) ≡ Ok new) where
  abbrev judged : List ℕ
  judged = overlaid pending 0 image

  abbrev shared : Live → Bool
  shared = is_shared old new (written_in pending) (length image)

  abbrev pub olds : List (List Located)
  olds = staying image old was shared

  abbrev pub news : List (List Located)
  news = staying judged new is shared

  abbrev old_at : Visit → Live
  old_at = pair_at old.sup (stored_of image old)

  abbrev new_at : Visit → Live
  new_at = pair_at new.sup (stored_of judged new)

  pub distinct_of : (at : List ℕ) (whole : Walked) (walks : walked at ≡ Ok whole) → Distinct (staying at whole walks shared)
  distinct_of at whole walks =
      distinct_whole (pair_at whole.sup (stored_of at whole)) (items_at whole.sup (stored_of at whole)) (test at whole walks shared)
      (visits at whole walks shared) (separate at whole walks shared)

  pub into : (some : List Located) → Among some olds → Among some news
  into some has =
      let f = found_of image old was in
      let g = found_of judged new is in
      let p =
      picked old_at (items_at old.sup (stored_of image old)) (Owns old.sup (stored_of image old)) (test image old was shared) some f.blocks.visits
      f.blocks.own has in
      let s : IsShared old new (written_in pending) (length image) (old_at p.v) =
      shared_is old new (written_in pending) (length image) (old_at p.v) p.passes in
      among_if new_at (items_at new.sup (stored_of judged new)) (Owns new.sup (stored_of judged new)) (are_alike (old_at p.v))
      (test judged new is shared) some g.blocks.visits g.blocks.own
      (subst (λ lives. list_any (are_alike (old_at p.v)) lives ≡ true) g.blocks.pairs s.is)
      (λ w own near. (
        sym (shared_alike (stays_between old new (length image)) (touches_old old (written_in pending) (length image)) old new (old_at p.v) (new_at w) near) ∙ p.passes,
        sym (block_same image pending old new p.v w p.has own near s) ∙ p.is,
      ))

  pub back : (some : List Located) → Among some news → Among some olds
  back some has =
      let f = found_of image old was in
      let g = found_of judged new is in
      let p =
      picked new_at (items_at new.sup (stored_of judged new)) (Owns new.sup (stored_of judged new)) (test judged new is shared) some
      g.blocks.visits g.blocks.own has in
      let s : IsShared old new (written_in pending) (length image) (new_at p.v) =
      shared_is old new (written_in pending) (length image) (new_at p.v) p.passes in
      among_if old_at (items_at old.sup (stored_of image old)) (Owns old.sup (stored_of image old)) (λ one. are_alike one (new_at p.v))
      (test image old was shared) some f.blocks.visits f.blocks.own
      (subst (λ lives. list_any (λ one. are_alike one (new_at p.v)) lives ≡ true) f.blocks.pairs s.was)
      (λ v own near.
      let passes : shared (old_at v) ≡ true =
      shared_alike (stays_between old new (length image)) (touches_old old (written_in pending) (length image)) old new (old_at v) (new_at p.v) near ∙ p.passes in (
        passes,
        block_same image pending old new v p.v own p.has near (shared_is old new (written_in pending) (length image) (old_at v) passes) ∙ p.is,
      ))

  same_of : IsPermutation (flat_map as_is olds) (flat_map as_is news)
  same_of = same_elements as_is olds news (distinct_of image old was) (distinct_of judged new is) into back

  pub both : HoldSame (records_of old) (records_of new) (records_at (lives image old was shared) old) (records_at (lives judged new is shared) new)
  both =
      let same = flat_map as_is news in
      record {
        same = same;
        old = parted image old was shared same same_of;
        new = parted judged new is shared same (IsPermutation-refl same);
      }

pub hold_same : RecordsLaw
hold_same image pending old new was is = both image pending old new was is

-- The inodes whose data has no checksums, after a change.
use Rattle.std.proofs.Common.{◌≡◌, ℕ, ◌≤◌, Bool, true, false, List, [], ◌∷◌, ◌++◌, length, refl, ap, sym, subst, ◌∙◌, append_assoc}
use Rattle.std.proofs.Common.{zero, suc, arith, slice_index_or}
use Rattle.std.proofs.lemmas.List.{length-map}
use Rattle.std.proofs.lemmas.List.Elements.{Contains-get_or, filter_map-append, recursion_from_All}
use Rattle.std.proofs.lemmas.List.Sorted.{IsPermutation-append_left, IsPermutation-trans}
use Rattle.std.specs.Prelude.{map}
use Rattle.std.specs.List.{AllByRecursion, AllPairs, cons_option, filter_map}
use Rattle.std.specs.List.Sorted.{IsPermutation}
use Rattle.live_index.specs.declared.live.Live.{Live}
use Rattle.records.specs.Context.{has_sum_free}
use Rattle.records.specs.Part.{Located}
use Rattle.records.specs.Seen.{Seen, accounted}
use Rattle.records.specs.Seen.Seen.{BlockSeen, ItemSeen, PointerSeen}
use Rattle.records.specs.declared.rec.ItemAt.{ItemAt}
use Rattle.change_records.specs.Changes.{AreChanges, Ascend, IsChange as IsItemChange, is_before}
use Rattle.change_records.specs.SumFree.{sum_free_after}
use Rattle.change_records.specs.declared.changes.ItemChange.{ItemChange}
use Rattle.tree_laws.specs.LivePairs.{Walked}
use Rattle.tree_laws.specs.MergedLaw.{IsInOrder, items}
use Rattle.tree_laws.specs.Shared.{are_read_alike, unshared_in}
use Rattle.tree_laws.specs.Unshared.{items_in}
use Rattle.touched_blocks.specs.Touched.{written_in}
use Rattle.tree_change.specs.Change.{item_before}
use Rattle.tree_change.specs.Gathered.{located_item}
use Rattle.tree_change.proofs.Split.{items_filter, stands_in}
use Rattle.tree_change.proofs.Unordered.{all_filter}
use Rattle.commit_laws.specs.Flags.{FlagsLaw}
use Rattle.commit_laws.specs.Items.{ItemsStand, items_of}
use Rattle.commit_laws.specs.Paired.{AllChangesLaw, PairedLaw, SayChanges, added_from, all_changes, anywhere, came_items, gone_items}
use Rattle.commit_laws.specs.Same.{HoldSame, RecordsLaw, live_record, records_at, records_of}
use Rattle.commit_laws.proofs.next_index.Flag.{Fits, came_flag, came_flags, flag, flag_made, flags, gone_flag, gone_flags, none_added, none_after, none_removed, one_flag}
use Rattle.commit_laws.proofs.next_index.Whole.{all_permuted}
use Rattle.commit_laws.proofs.steps_between.Flat.{filter_map_alike, filter_map_permuted}

-- items that ascend as they stand in images ascend as they are kept
pub ascend_items : (found : List ItemAt) → AllPairs (λ a b. item_before a b ≡ true) (map located_item found) → Ascend found
unfolding is_before
ascend_items found all i j d less within =
    let long = length-map found located_item in
    subst (λ one. item_before one (located_item (slice_index_or found j d)) ≡ true) (at found i d)
    (subst (λ one. item_before (slice_index_or (map located_item found) i (located_item d)) one ≡ true) (at found j d)
    (all i j (located_item d) less (omega arith)))
  where
    at : (some : List ItemAt) (k : ℕ) (e : ItemAt) → slice_index_or (map located_item some) k (located_item e) ≡ located_item (slice_index_or some k e)
    at [] k e = refl
    at (x ∷ some) zero e = refl
    at (x ∷ some) (suc k) e = at some k e

module _ (tree ino : ℕ) where
  abbrev here : List Located → List Bool
  here found = flags tree ino found

  accounted_flags : (seen : List Seen) → here (filter_map accounted seen) ≡ here (items seen)
  accounted_flags [] = refl
  accounted_flags (BlockSeen block ∷ seen) = accounted_flags seen
  accounted_flags (PointerSeen pointer ∷ seen) = accounted_flags seen
  accounted_flags (ItemSeen one ∷ seen) = ap (cons_option (flag tree ino one)) (accounted_flags seen)

  records_flags : (whole : Walked) → here (records_of whole) ≡ here (items_of whole)
  unfolding records_of
  records_flags whole = accounted_flags whole.seen

  blocks_none : (lives : List Live) (found : List Located) → here (map live_record lives ++ found) ≡ here found
  blocks_none [] found = refl
  blocks_none (live ∷ lives) found = blocks_none lives found

  flags_at : (lives : List Live) (whole : Walked) → here (records_at lives whole) ≡ here (items_in lives whole.seen)
  unfolding records_at
  flags_at lives whole = blocks_none lives (items_in lives whole.seen)

  -- the flags of an image by those of the items that changed
  flags_are : (whole : Walked) (lives : List Live) (same found : List Located) → IsPermutation (records_of whole) (records_at lives whole ++ same)
      → IsPermutation (items_in lives whole.seen) found → IsPermutation (here (records_of whole)) (here found ++ here same)
  flags_are whole lives same found perm are =
      IsPermutation-trans (here (records_of whole)) (here (items_in lives whole.seen) ++ here same) (here found ++ here same)
      (subst (IsPermutation (here (records_of whole)))
      (filter_map-append (flag tree ino) (records_at lives whole) same ∙ ap (λ xs. xs ++ here same) (flags_at lives whole))
      (filter_map_permuted (flag tree ino) (records_of whole) (records_at lives whole ++ same) perm))
      (IsPermutation-append_left (here same) (here (items_in lives whole.seen)) (here found)
      (filter_map_permuted (flag tree ino) (items_in lives whole.seen) found are))

  -- the same, where some of these go or come and the others stay
  flags_split : (whole : Walked) (same found moved stay : List Located) → IsPermutation (here (records_of whole)) (here found ++ here same)
      → IsPermutation found (moved ++ stay) → IsPermutation (here (records_of whole)) (here moved ++ (here stay ++ here same))
  flags_split whole same found moved stay perm are =
      IsPermutation-trans (here (records_of whole)) (here found ++ here same) (here moved ++ (here stay ++ here same)) perm
      (subst (IsPermutation (here found ++ here same)) (append_assoc (here moved) (here stay) (here same))
      (IsPermutation-append_left (here same) (here found) (here moved ++ here stay)
      (subst (IsPermutation (here found)) (filter_map-append (flag tree ino) moved stay)
      (filter_map_permuted (flag tree ino) found (moved ++ stay) are))))

  few : (whole : Walked) → ItemsStand whole.sup.nodesize (items_of whole) → length (here (records_of whole)) ≤ 1
  few whole stand =
      subst (λ (xs : List Bool). length xs ≤ 1) (sym (records_flags whole))
      (one_flag tree ino (items_of whole) stand.distinct (recursion_from_All Fits (items_of whole) stand.places))

-- the items that changed say their own keys
changed_fit : (whole : Walked) (lives : List Live) (found : List Located) → ItemsStand whole.sup.nodesize (items_of whole)
    → IsPermutation (items_in lives whole.seen) found → AllByRecursion Fits found
changed_fit whole lives found stand are =
    all_permuted Fits (items_in lives whole.seen) found are
    (subst (AllByRecursion Fits) (sym (items_filter lives whole.seen))
    (all_filter Fits (stands_in lives) (items whole.seen) (recursion_from_All Fits (items_of whole) stand.places)))

module _ (old new : Walked) (gone came : List Live) (olds news : List ItemAt) (changes : List ItemChange) (tree ino : ℕ)
    (same : HoldSame (records_of old) (records_of new) (records_at gone old) (records_at came new))
    (old_stand : ItemsStand old.sup.nodesize (items_of old)) (new_stand : ItemsStand new.sup.nodesize (items_of new))
    (goes : IsInOrder item_before (items_in gone old.seen) (map located_item olds))
    (comes : IsInOrder item_before (items_in came new.seen) (map located_item news)) where
  abbrev Kept : List ItemChange → Type 0
  Kept made = has_sum_free (records_of new) tree ino ≡ sum_free_after olds news tree ino made (has_sum_free (records_of old) tree ino)

  old_flags : IsPermutation (flags tree ino (records_of old)) (flags tree ino (map located_item olds) ++ flags tree ino same.same)
  old_flags = flags_are tree ino old gone same.same (map located_item olds) same.old goes.all

  new_flags : IsPermutation (flags tree ino (records_of new)) (flags tree ino (map located_item news) ++ flags tree ino same.same)
  new_flags = flags_are tree ino new came same.same (map located_item news) same.new comes.all

  pub all_said : PairedLaw → AreChanges olds news changes → Kept changes
  all_said pairs are =
      let p = pairs olds news changes (ascend_items olds goes.ascends) (ascend_items news comes.ascends) are in
      let rest = flags tree ino p.old_rest ++ flags tree ino same.same in
      let stays : flags tree ino p.new_rest ≡ flags tree ino p.old_rest =
      sym (filter_map_alike (flag tree ino) anywhere (λ one. refl) p.old_rest p.new_rest p.same) in
      let was : IsPermutation (flags tree ino (records_of old)) (flags tree ino (gone_items olds changes) ++ rest) =
      flags_split tree ino old same.same (map located_item olds) (gone_items olds changes) p.old_rest old_flags p.old in
      let is : IsPermutation (flags tree ino (records_of new))
      (flags tree ino (came_items news changes) ++ (flags tree ino p.new_rest ++ flags tree ino same.same)) =
      flags_split tree ino new same.same (map located_item news) (came_items news changes) p.new_rest new_flags p.new in
      flag_made tree ino olds news (records_of old) (records_of new) rest changes
      (none_after tree ino olds news (changed_fit old gone (map located_item olds) old_stand goes.all)
      (changed_fit new came (map located_item news) new_stand comes.all) changes
      (recursion_from_All (IsItemChange olds news) changes
      (λ k d less. are.hold (slice_index_or changes k d) (Contains-get_or changes k d less))) are.ascend)
      (few tree ino old old_stand) (few tree ino new new_stand)
      (subst (λ xs. IsPermutation (flags tree ino (records_of old)) (xs ++ rest)) (gone_flags tree ino olds news changes) was)
      (subst (λ xs. IsPermutation (flags tree ino (records_of new)) (xs ++ rest)) (came_flags tree ino olds news changes)
      (subst (λ xs. IsPermutation (flags tree ino (records_of new)) (flags tree ino (came_items news changes) ++ (xs ++ flags tree ino same.same)))
      stays is))

  pub all_go : AllChangesLaw → changes ≡ all_changes olds news → Kept changes
  all_go all are =
      let both = all olds news in
      let rest = flags tree ino same.same in
      let whole = all_changes olds news in
      let was : flags tree ino (map located_item olds) ≡ filter_map (gone_flag tree ino olds news) whole =
      ap (flags tree ino) (sym both.0) ∙ gone_flags tree ino olds news whole in
      let is : flags tree ino (map located_item news) ≡ filter_map (came_flag tree ino olds news) whole =
      ap (flags tree ino) (sym both.1) ∙ came_flags tree ino olds news whole in
      subst Kept (sym are)
      (flag_made tree ino olds news (records_of old) (records_of new) rest whole
      (none_removed tree ino olds news 0 (length olds) (added_from 0 (length news)) (none_added tree ino olds news 0 (length news)))
      (few tree ino old old_stand) (few tree ino new new_stand)
      (subst (λ xs. IsPermutation (flags tree ino (records_of old)) (xs ++ rest)) was old_flags)
      (subst (λ xs. IsPermutation (flags tree ino (records_of new)) (xs ++ rest)) is new_flags))

  pub said : PairedLaw → AllChangesLaw → (alike : Bool) → SayChanges alike olds news changes → Kept changes
  said pairs all true say = all_said pairs say
  said pairs all false say = all_go all say

pub flags_kept : RecordsLaw → PairedLaw → AllChangesLaw → FlagsLaw
flags_kept law pairs all image pending old new change changes tree ino was is old_stand new_stand changed say =
    said old new (unshared_in old new (written_in pending) (length image) old) (unshared_in old new (written_in pending) (length image) new)
    change.old_items.items change.new_items.items changes tree ino (law image pending old new was is) old_stand new_stand changed.old_items
    changed.new_items pairs all (are_read_alike old.sup new.sup) say

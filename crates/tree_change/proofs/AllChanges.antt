-- What the two steps of a comparison make is what changes from the one image to the other; and their first finding is that of what the new
-- image holds.
use Rattle.std.proofs.Common.{◌≡◌, ℕ, ◌+◌, ◌*◌, ◌≤◌, List, length, inl, inr, refl, sym, subst, ◌∙◌, arith}
use Rattle.std.proofs.lemmas.List.Sorted.{length_permutation}
use Rattle.std.specs.Prelude.{Ok, Err, map}
use Rattle.std.specs.List.Sorted.{IsPermutation}
use Rattle.verdict.specs.declared.finding.Finding.{Finding}
use Rattle.verdict.specs.declared.place.Chunk.{Chunk}
use Rattle.live_index.specs.Table.{pairs_of}
use Rattle.live_index.specs.declared.live.Live.{Live}
use Rattle.super_reader.specs.Superblock.{array_place}
use Rattle.volume_items.specs.SystemArray.{array_chunks}
use Rattle.volume_items.specs.declared.root_at.RootAt.{RootAt}
use Rattle.records.specs.Contents.{chunk_map_in, contents, root_items_in}
use Rattle.touched_blocks.specs.Marks.{marked_by}
use Rattle.touched_blocks.specs.Touched.{written_in}
use Rattle.touched_blocks.specs.declared.marks.PairPlace.{PairPlace}
use Rattle.tree_laws.specs.LivePairs.{Walked, walked}
use Rattle.tree_laws.specs.Shared.{unshared_in}
use Rattle.tree_laws.specs.SharedLaw.{HasTrees}
use Rattle.tree_laws.specs.TableLaw.{trees_in}
use Rattle.tree_change.specs.AllTrees.{AreAllParts, with_parts}
use Rattle.tree_change.specs.Change.{IsChange, is_before, item_before}
use Rattle.tree_change.specs.Compared.{FindsRest, FitsCompared, HasNewArray, IsCompared, MakesMap, MakesRest, judged_by}
use Rattle.tree_change.specs.Gathered.{located_item}
use Rattle.tree_change.specs.Merging.{IsSortedOf}
use Rattle.tree_change.specs.Rising.{AreAllUnshared, IsRisen}
use Rattle.tree_change.specs.Unchanged.{changed_in}
use Rattle.tree_change.specs.Walks.{Known, Parts}
use Rattle.tree_change.specs.declared.change.Change.{Change}
use Rattle.tree_change.specs.declared.sides.Compared.{Compared}
use Rattle.tree_change.proofs.AllTrees.{all_trees}
use Rattle.tree_change.proofs.Contents.{contents_array, contents_chunks, contents_roots, contents_trees, walked_all}
use Rattle.tree_change.proofs.EachTree.{one_tree}
use Rattle.tree_change.proofs.MarksKnown.{marks_all}
use Rattle.tree_change.proofs.Olds.{same_ok}
use Rattle.tree_change.proofs.RisenAll.{risen_law}

-- what the two steps make of a new image
module _ {L : Type 0} (both : Compared L) (end : ℕ) (image : List ℕ) (fits : FitsCompared both end) (is : IsCompared both image)
    (array chunks : List Chunk) (roots : List RootAt) (known : Known) (tree_parts rest made : Parts) (places : List PairPlace) (before after : ℕ)
    (array_is : HasNewArray both array) (m : MakesMap both image is.based.old array chunks known tree_parts)
    (r : MakesRest both image is.based.old is.based.olds chunks rest roots)
    (risen : IsRisen (pairs_of both.table.now) (marked_by both.marks.now) places (with_parts tree_parts rest) made before after) where
  abbrev judged : List ℕ
  judged = judged_by both image

  abbrev old : Walked
  old = is.based.old

  abbrev left : Walked → List Live
  left new = unshared_in old new (written_in both.cache.now) (length image) old

  abbrev gone : Walked → List Live
  gone new = changed_in old new (written_in both.cache.now) (length image) old

  -- the walks of the new image have no finding, and what they make, with the pairs that rise, is all that is not shared
  all_changes : (new : Walked) × (walked judged ≡ Ok new) × (new.sup ≡ both.fresh.now) × (new.chunks ≡ chunks)
      × AreAllUnshared old new both.cache.now (length image) made × (after + length (gone new) ≤ before + length (left new))
  all_changes =
      let step = walked_all judged both.fresh.now is.super_is array array_is chunks m.chunks_are roots r.items r.records r.fine in
      let new : Walked = record { sup = both.fresh.now; chunks = chunks; seen = step.0 } in
      let trees = trees_in old.sup old.chunks old.chunks is.based.olds image in
      let afters = trees_in both.fresh.now chunks chunks roots judged in
      let has : HasTrees judged new afters = record { walks = step.1; roots = roots; items = r.items; trees_are = refl } in
      let parts : AreAllParts old new both.cache.now (length image) (with_parts tree_parts rest) =
      subst (λ (more : Parts). AreAllParts old new both.cache.now (length image) (with_parts tree_parts more)) (sym r.all)
      (all_trees one_tree image both.cache.now old new is.based.olds roots trees afters array (pairs_of both.table.now) known r.known tree_parts
      r.root_parts r.named r.gone
      (record {
        over = r.over;
        has = has;
        afters_are = refl;
        array_is = record { walks = step.1; array_is = array_is };
        array_known = m.known_is;
        chunk_tree = m.tree;
        root_tree = r.root_tree;
        named_trees = r.named_trees;
        gone_trees = r.gone_trees;
      })) in
      let all =
      risen_law image both.cache.now old new trees afters (pairs_of both.table.now) (marked_by both.marks.now) places (with_parts tree_parts rest) made
      before after is.based.has has is.based.pairs_are (marks_all both end image fits is new refl) risen parts in (
        new,
        step.1,
        refl,
        refl,
        all.0,
        looks (length (with_parts tree_parts rest).old_blocks) (length (gone new)) (length made.old_blocks) (length (left new)) all.1
            (length_permutation (gone new) (with_parts tree_parts rest).old_blocks parts.old_blocks)
            (length_permutation (left new) made.old_blocks all.0.old_blocks),
      )
    where
      looks : (p g n l : ℕ) → after + p ≤ before + n → p ≡ g → n ≡ l → after + g ≤ before + l
      looks p g n l few a b = omega (arith, few, a, b)

  -- What they make, in order, is what changes; and no more blocks are counted than are not shared.
  pub change_is : (change : Change) → change.old_blocks.items ≡ made.old_blocks → change.new_blocks.items ≡ made.new_blocks
      → IsSortedOf is_before made.shifted change.moved.items
      → IsSortedOf item_before made.old_items (map located_item change.old_items.items)
      → IsSortedOf item_before made.new_items (map located_item change.new_items.items)
      → change.map ≡ chunks → change.roots.items ≡ roots
      → (new : Walked) × (walked judged ≡ Ok new) × IsChange old new (written_in both.cache.now) (length image) change
      × (root_items_in new.sup new.chunks judged ≡ Ok change.roots.items) × (made.count ≤ length change.old_blocks.items + 2 * length change.new_blocks.items)
  change_is change old_blocks new_blocks moved old_items new_items map_is roots_are =
      let all = all_changes in
      let new = all.0 in
      let written = written_in both.cache.now in (
        new,
        all.1,
        record {
          old_blocks = subst (IsPermutation (unshared_in old new written (length image) old)) (sym old_blocks) all.4.old_blocks;
          new_blocks = subst (IsPermutation (unshared_in old new written (length image) new)) (sym new_blocks) all.4.new_blocks;
          moved = all.4.shifted change.moved.items moved;
          old_items = all.4.old_items (map located_item change.old_items.items) old_items;
          new_items = all.4.new_items (map located_item change.new_items.items) new_items;
          map = map_is ∙ sym all.3;
        },
        rw (all.2, all.3, roots_are) r.items,
        rw (old_blocks, new_blocks) all.4.count,
      )

  -- and the looks for the pairs that rise are few
  pub rises : (new : Walked) → walked judged ≡ Ok new → after + length (gone new) ≤ before + length (left new)
  rises new walks =
      let all = all_changes in
      subst (λ n. after + length (gone n) ≤ before + length (left n)) (same_ok all.0 new (sym all.1 ∙ walks)) all.5

-- a finding of the new system array is that of what the new image holds
pub finds_array : {L : Type 0} (both : Compared L) (image : List ℕ) → IsCompared both image → (finding : Finding)
    → array_chunks (array_place both.fresh.now) both.fresh.now.array both.fresh.now.array_size ≡ Err finding
    → contents (judged_by both image) ≡ Err finding
finds_array both image is finding failed = contents_array (judged_by both image) both.fresh.now is.super_is finding failed

-- so is one of the new chunks
pub finds_map : {L : Type 0} (both : Compared L) (image : List ℕ) → IsCompared both image → (array : List Chunk) (finding : Finding)
    → HasNewArray both array → chunk_map_in both.fresh.now array (judged_by both image) ≡ Err finding
    → contents (judged_by both image) ≡ Err finding
finds_map both image is array finding array_is failed =
    contents_chunks (judged_by both image) both.fresh.now is.super_is array array_is finding failed

-- and so is one of the other trees
pub finds_rest : {L : Type 0} (both : Compared L) (image : List ℕ) → IsCompared both image → (array chunks : List Chunk) (finding : Finding)
    → HasNewArray both array → chunk_map_in both.fresh.now array (judged_by both image) ≡ Ok chunks → FindsRest both image chunks finding
    → contents (judged_by both image) ≡ Err finding
finds_rest both image is array chunks finding array_is chunks_are found = by found
  where
    by : FindsRest both image chunks finding → contents (judged_by both image) ≡ Err finding
    by (inl failed) =
        contents_roots (judged_by both image) both.fresh.now is.super_is array array_is chunks chunks_are finding failed
    by (inr later) =
        contents_trees (judged_by both image) both.fresh.now is.super_is array array_is chunks chunks_are later.0 later.1 finding later.2

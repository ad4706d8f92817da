-- What changes in all trees of an image, from what changes in each.
use Rattle.std.proofs.Common.{◌≡◌, ℕ, ◌==◌, Bool, true, false, not, ◌&&◌, ◌||◌, List, [], ◌∷◌, ◌++◌, length, refl, sym, subst, ◌∙◌, arith}
use Rattle.std.proofs.lemmas.Bool.Decides.{nat_tests}
use Rattle.std.specs.Prelude.{Option, Some, None, Ok, map}
use Rattle.std.specs.List.{AllByRecursion, filter, list_any}
use Rattle.std.specs.List.Sorted.{IsPermutation}
use Rattle.std.specs.Ordering.{nat_cmp}
use Rattle.std.specs.FinMap.{FinMap}
use Rattle.verdict.specs.declared.place.Chunk.{Chunk}
use Rattle.write_cache.specs.Cache.{overlaid}
use Rattle.live_index.specs.Pairs.{Pairs}
use Rattle.live_index.specs.declared.live.Live.{Live}
use Rattle.node_reader.specs.Stored.{Stored, stored_in}
use Rattle.node_reader.specs.declared.expect.Expect.{Expect}
use Rattle.records.specs.Contents.{chunk_tree_root, named_root, root_tree_root, names}
use Rattle.records.specs.Seen.{Seen}
use Rattle.records.specs.Walk.{walk_in}
use Rattle.touched_blocks.specs.Touched.{written_in}
use Rattle.tree_laws.specs.LivePairs.{Walked, live_in}
use Rattle.tree_laws.specs.MergedLaw.{items}
use Rattle.tree_laws.specs.ShiftedLaw.{is_shifted}
use Rattle.tree_laws.specs.TableLaw.{AreApart, Tree, trees_in}
use Rattle.tree_laws.specs.Unshared.{items_in}
use Rattle.tree_laws.proofs.Forest.{walks}
use Rattle.tree_laws.proofs.Lives.{ok_same}
use Rattle.tree_laws.proofs.Treed.{chunk_tree, trees_walk}
use Rattle.tree_change.specs.AllTrees.{AllTreesLaw, AreAllParts, IsAll, root_named, side_by, with_parts}
use Rattle.tree_change.specs.Change.{is_before, item_before}
use Rattle.tree_change.specs.OneTree.{IsAmong, IsOldOf, IsTree, OneTreeLaw, unchanged, side_of}
use Rattle.tree_change.specs.Unchanged.{changed_in, is_unchanged}
use Rattle.tree_change.specs.Walks.{Known, Parts, Side, gone_parts, tree_parts}
use Rattle.tree_change.proofs.Alone.{alone_same, array_same}
use Rattle.tree_change.proofs.Apart.{pairs_apart}
use Rattle.tree_change.proofs.Vanished.{among, gone_piece}
use Rattle.tree_change.proofs.Ids.{Listed, all_distinct, all_ids, at_ids, gone_ids, image_ids, news_listed, olds_listed}
use Rattle.tree_change.proofs.Ordered.{items_apart}
use Rattle.tree_change.proofs.Piece.{ArePieces, IsPiece, changed, item_id, live_id, pieces_append, pieces_with}
use Rattle.tree_change.proofs.Split.{AreListed, Gives, IsOf, are_listed, items_filter, of_trees, stands_in}
use Rattle.tree_change.proofs.EveryTree.{all_among, gone_pieces, knows_one, named_pieces, old_named, tree_piece}
use Rattle.tree_change.proofs.Unordered.{Distinct, all_filter, by_ids, in_order, listed, of_ids}
use Rattle.volume_items.specs.declared.root_at.RootAt.{RootAt}

other_way : (m n : ℕ) → (m == n) ≡ false → (n == m) ≡ false
other_way m n is = grind (arith, nat_tests)

module _ (law : OneTreeLaw) (image : List ℕ) (pending : FinMap nat_cmp ℕ) (old new : Walked) (olds news : List RootAt) (trees afters : List Tree)
    (array : List Chunk) (pairs : Pairs) (by_array known : Known) (chunk_parts root_parts named left : Parts)
    (a : IsAll image pending old new olds news trees afters array pairs by_array known chunk_parts root_parts named left) where
  abbrev pub judged : List ℕ
  judged = overlaid pending 0 image

  abbrev pub side : Side
  side = side_by judged new new.chunks

  abbrev pub all : Parts
  all = changed old new (written_in pending) (length image)

  abbrev ids : List ℕ
  ids = all_ids news olds

  abbrev pub was_stored : Stored
  was_stored = stored_in image old.chunks old.sup.nodesize

  abbrev is_stored : Stored
  is_stored = stored_in judged new.chunks new.sup.nodesize

  was_all : AreApart trees × (walks old.sup trees ≡ Ok old.seen)
  was_all = trees_walk image old trees a.over.has

  is_all : AreApart afters × (walks new.sup afters ≡ Ok new.seen)
  is_all = trees_walk judged new afters a.has

  old_distinct : Distinct (3 ∷ 1 ∷ at_ids olds)
  old_distinct = image_ids old.sup old.chunks olds image (subst AreApart a.over.trees_are was_all.0)

  new_distinct : Distinct (3 ∷ 1 ∷ at_ids news)
  new_distinct = image_ids new.sup new.chunks news judged (subst AreApart a.afters_are is_all.0)

  olds_among : AllByRecursion (λ t. IsAmong t trees) (trees_in old.sup old.chunks old.chunks olds image)
  olds_among = subst (AllByRecursion (λ t. IsAmong t trees)) a.over.trees_are (all_among trees)

  news_among : AllByRecursion (λ t. IsAmong t afters) (trees_in new.sup new.chunks new.chunks news judged)
  news_among = subst (AllByRecursion (λ t. IsAmong t afters)) a.afters_are (all_among afters)

  -- what holds of each named tree, by its root item
  named_each : (P : Tree → Type 0) (stored : Stored) (some : List RootAt)
      → AllByRecursion P (map (λ (root : RootAt). (stored, named_root root)) some)
      → AllByRecursion (λ (root : RootAt). P (stored, named_root root)) some
  named_each P stored [] each = tt
  named_each P stored (root ∷ some) each = (each.0, named_each P stored some each.1)

  each_named : (P : Tree → Type 0) (stored : Stored) (some : List RootAt) → AllByRecursion (λ (root : RootAt). P (stored, named_root root)) some
      → AllByRecursion P (map (λ (root : RootAt). (stored, named_root root)) some)
  each_named P stored [] each = tt
  each_named P stored (root ∷ some) each = (each.0, each_named P stored some each.1)

  -- the records of a tree of the image as it is tell what is shared of it
  abbrev Alike : Side → Expect → Type 0
  Alike is now =
      (records : List Seen) → walk_in is.sup is.chunks now is.image ≡ Ok records → IsOf now.tree records new.seen
      × ((live : Live) → live.tree ≡ now.tree → unchanged image pending old is records live ≡ is_unchanged old new (written_in pending)
      (length image) live)

  alike_of : (now : Expect) → IsAmong (is_stored, now) afters → Alike side now
  unfolding walk_in
  alike_of now is records walk =
      let whole = among (Gives new.sup new.seen) (is_stored, now) afters is (of_trees new.sup afters new.seen is_all.0 is_all.1) in
      let of : IsOf now.tree records new.seen = subst (λ r. IsOf now.tree r new.seen) (ok_same whole.0 records (sym whole.1 ∙ walk)) whole.2 in
      (of, λ live at. alone_same judged old new (written_in pending) (length image) now.tree records of live at)

  alike_chunks : Alike (side_by judged new array) (chunk_tree_root new.sup)
  unfolding walk_in
  alike_chunks records walk =
      let root = chunk_tree_root new.sup in
      let whole = among (Gives new.sup new.seen) (is_stored, root) afters news_among.0 (of_trees new.sup afters new.seen is_all.0 is_all.1) in
      let same = chunk_tree judged new array a.has.walks a.array_is.array_is in
      let of : IsOf 3 records new.seen = subst (λ r. IsOf 3 r new.seen) (ok_same whole.0 records (sym whole.1 ∙ (same.walk ∙ walk))) whole.2 in
      (of, λ live at. array_same image pending old new array a.array_is records walk of live at)

  -- what changes in the chunk tree is what changes in all, of its id
  chunks_piece : IsPiece all 3 chunk_parts
  chunks_piece =
      tree_piece law image pending old new trees pairs (side_by judged new array) by_array (Some (chunk_tree_root old.sup))
      (chunk_tree_root new.sup) chunk_parts
      (record {
        has = a.over.has;
        pairs_are = a.over.pairs_are;
        over = refl;
        root = (refl, refl);
        was = (refl, olds_among.0);
        known_is = a.array_known;
      }) a.chunk_tree alike_chunks

  -- a tree that is read by all chunks
  one_piece : (before : Option Expect) (now : Expect) (parts : Parts) → now.low ≡ None → now.high ≡ None → IsAmong (is_stored, now) afters
      → IsOldOf image old trees now before → tree_parts pairs known (side_of image old) side before now ≡ Ok parts → IsPiece all now.tree parts
  one_piece before now parts low high is was made =
      tree_piece law image pending old new trees pairs side known before now parts
      (record {
        has = a.over.has;
        pairs_are = a.over.pairs_are;
        over = refl;
        root = (low, high);
        was = was;
        known_is = knows_one image pending old trees side known before now was a.over.known_is;
      }) made (alike_of now is)

  roots_piece : IsPiece all 1 root_parts
  roots_piece =
      one_piece (Some (root_tree_root old.sup)) (root_tree_root new.sup) root_parts refl refl news_among.1.0 (refl, olds_among.1.0) a.root_tree

  -- the old tree of a named one
  was_named : (root : RootAt) → (root.key.objectid == 3) ≡ false → (root.key.objectid == 1) ≡ false
      → IsOldOf image old trees (named_root root) (root_named olds root.key.objectid)
  was_named root three one =
      old_named image old trees (named_root root) olds (named_each (λ t. IsAmong t trees) was_stored olds olds_among.1.1)
      (λ none. subst (AllByRecursion (λ t. (t.1.tree == root.key.objectid) ≡ false)) (sym a.over.trees_are) (
        other_way root.key.objectid 3 three,
        (other_way root.key.objectid 1 one, each_named (λ t. (t.1.tree == root.key.objectid) ≡ false) was_stored olds none),
      ))

  named_all : (some : List RootAt) → AllByRecursion (λ (root : RootAt). IsAmong (is_stored, named_root root) afters) some
      → AllByRecursion (λ m. (m == 3) ≡ false) (at_ids some) → AllByRecursion (λ m. (m == 1) ≡ false) (at_ids some)
      → AllByRecursion (λ root. (parts : Parts)
      → tree_parts pairs known (side_of image old) side (root_named olds root.key.objectid) (named_root root) ≡ Ok parts
      → IsPiece all root.key.objectid parts) some
  named_all [] is three one = tt
  named_all (root ∷ some) is three one = (
    λ parts made. one_piece (root_named olds root.key.objectid) (named_root root) parts refl refl is.0
        (was_named root three.0 one.0) made,
    named_all some is.1 three.1 one.1,
  )

  -- each tree that is named now is one of those of the law of one tree
  named_some : (some : List RootAt) → AllByRecursion (λ m. (m == 3) ≡ false) (at_ids some)
      → AllByRecursion (λ m. (m == 1) ≡ false) (at_ids some)
      → AllByRecursion (λ (root : RootAt).
      IsTree image pending old trees pairs side known (root_named olds root.key.objectid) (named_root root)) some
  named_some [] three one = tt
  named_some (root ∷ some) three one = (
    record {
      has = a.over.has;
      pairs_are = a.over.pairs_are;
      over = refl;
      root = (refl, refl);
      was = was_named root three.0 one.0;
      known_is = knows_one image pending old trees side known (root_named olds root.key.objectid) (named_root root)
          (was_named root three.0 one.0) a.over.known_is;
    },
    named_some some three.1 one.1,
  )

  pub named_trees : AllByRecursion (λ (root : RootAt).
      IsTree image pending old trees pairs side known (root_named olds root.key.objectid) (named_root root)) news
  named_trees = named_some news new_distinct.0.1 new_distinct.1.0

  -- each that was named is one of the old trees
  pub olds_named : AllByRecursion (λ (root : RootAt). IsAmong (was_stored, named_root root) trees) olds
  olds_named = named_each (λ t. IsAmong t trees) was_stored olds olds_among.1.1

  named_are : ArePieces all (at_ids news) named
  named_are =
      named_pieces all pairs known (side_of image old) side olds news named
      (named_all news (named_each (λ t. IsAmong t afters) is_stored news news_among.1.1) new_distinct.0.1 new_distinct.1.0) a.named_trees

  -- no tree as it is has the id of one that is gone
  none_named : (id : ℕ) (some : List RootAt) → list_any (names id) some ≡ false
      → AllByRecursion (λ (root : RootAt). (root.key.objectid == id) ≡ false) some
  none_named id [] none = tt
  none_named id (root ∷ some) none =
      let both = or_false (root.key.objectid == id) (list_any (names id) some) none in
      (both.0, none_named id some both.1)
    where
      or_false : (a b : Bool) → (a || b) ≡ false → (a ≡ false) × (b ≡ false)
      or_false true b is = absurd (cc)
      or_false false b is = (refl, is)

  gone_each : (some : List RootAt) → AllByRecursion (λ (root : RootAt). IsAmong (was_stored, named_root root) trees) some
      → AllByRecursion (λ m. (m == 3) ≡ false) (at_ids some) → AllByRecursion (λ m. (m == 1) ≡ false) (at_ids some)
      → AllByRecursion (λ root. (parts : Parts) → list_any (names root.key.objectid) news ≡ false
      → gone_parts pairs known (side_of image old) (named_root root) ≡ Ok parts → IsPiece all root.key.objectid parts) some
  gone_each [] is three one = tt
  gone_each (root ∷ some) is three one = (
    λ parts none made. gone_piece image pending old new trees afters pairs known was_all.0 was_all.1 is_all.0 is_all.1 a.over.pairs_are
        (named_root root) parts is.0
        (subst (AllByRecursion (λ t. (t.1.tree == root.key.objectid) ≡ false)) (sym a.afters_are) (
          other_way root.key.objectid 3 three.0,
          (
            other_way root.key.objectid 1 one.0,
            each_named (λ t. (t.1.tree == root.key.objectid) ≡ false) is_stored news (none_named root.key.objectid news none),
          ),
        )) made,
    gone_each some is.1 three.1 one.1,
  )

  gone_are : ArePieces all (gone_ids news olds) left
  gone_are =
      gone_pieces all pairs known (side_of image old) news olds left
      (gone_each olds (named_each (λ t. IsAmong t trees) was_stored olds olds_among.1.1) old_distinct.0.1 old_distinct.1.0) a.gone_trees

  abbrev pub parts : Parts
  parts = with_parts chunk_parts (with_parts root_parts (with_parts named left))

  -- all parts are those of the different ids, which all pairs and items have
  pieces : ArePieces all ids parts
  pieces =
      pieces_with all 3 (1 ∷ (at_ids news ++ gone_ids news olds)) chunk_parts
      (with_parts root_parts (with_parts named left))
      chunks_piece
      (pieces_with all 1 (at_ids news ++ gone_ids news olds) root_parts
      (with_parts named left) roots_piece
      (pieces_append all (at_ids news) (gone_ids news olds) named left named_are gone_are))

  distinct : Distinct ids
  distinct = all_distinct news olds new_distinct old_distinct

  old_listed : AreListed ids old.seen
  old_listed =
      are_listed old.sup ids trees old.seen was_all.0 was_all.1
      (subst (Listed ids) (sym a.over.trees_are) (olds_listed old.sup old.chunks olds news image))

  new_listed : AreListed ids new.seen
  new_listed =
      are_listed new.sup ids afters new.seen is_all.0 is_all.1
      (subst (Listed ids) (sym a.afters_are) (news_listed new.sup new.chunks news olds judged))

  lives_listed : (test : Live → Bool) (seen : List Seen) → AreListed ids seen
      → IsPermutation (filter test (live_in seen)) (of_ids live_id ids (filter test (live_in seen)))
  lives_listed test seen each =
      by_ids live_id ids (filter test (live_in seen)) distinct
      (all_filter (λ live. listed (live_id live) ids ≡ true) test (live_in seen) each.lives)

  items_listed : (lives : List Live) (seen : List Seen) → AreListed ids seen
      → IsPermutation (items_in lives seen) (of_ids item_id ids (items_in lives seen))
  items_listed lives seen each =
      by_ids item_id ids (items_in lives seen) distinct
      (subst (AllByRecursion (λ one. listed (item_id one) ids ≡ true)) (sym (items_filter lives seen))
      (all_filter (λ one. listed (item_id one) ids ≡ true) (stands_in lives) (items seen) each.found))

  -- the shared pairs that are shifted, in some order
  pub moved_all : IsPermutation all.shifted parts.shifted
  moved_all =
      subst (IsPermutation all.shifted) (sym pieces.shifted)
      (lives_listed (λ live. is_unchanged old new (written_in pending) (length image) live && is_shifted (live_in old.seen) live) new.seen new_listed)

  all_parts : AreAllParts old new pending (length image) parts
  all_parts = record {
    old_blocks = subst (IsPermutation all.old_blocks) (sym pieces.old_blocks)
        (lives_listed (λ live. not (is_unchanged old new (written_in pending) (length image) live)) old.seen old_listed);
    new_blocks = subst (IsPermutation all.new_blocks) (sym pieces.new_blocks)
        (lives_listed (λ live. not (is_unchanged old new (written_in pending) (length image) live)) new.seen new_listed);
    shifted = λ sorted sort. in_order is_before all.shifted parts.shifted sorted
        (subst (IsPermutation all.shifted) (sym pieces.shifted)
        (lives_listed (λ live. is_unchanged old new (written_in pending) (length image) live && is_shifted
        (live_in old.seen) live) new.seen new_listed)) sort
        (pairs_apart new.sup afters new.seen
        (λ live. is_unchanged old new (written_in pending) (length image) live && is_shifted (live_in old.seen) live)
        is_all.0 is_all.1);
    old_items = λ sorted sort. in_order item_before all.old_items parts.old_items sorted
        (subst (IsPermutation all.old_items) (sym pieces.old_items)
        (items_listed (changed_in old new (written_in pending) (length image) old) old.seen old_listed)) sort
        (items_apart old.sup trees old.seen (changed_in old new (written_in pending) (length image) old) was_all.0 was_all.1);
    new_items = λ sorted sort. in_order item_before all.new_items parts.new_items sorted
        (subst (IsPermutation all.new_items) (sym pieces.new_items)
        (items_listed (changed_in old new (written_in pending) (length image) new) new.seen new_listed)) sort
        (items_apart new.sup afters new.seen (changed_in old new (written_in pending) (length image) new) is_all.0 is_all.1);
    count = pieces.count;
  }

-- What changes in all trees, from what changes in each.
pub all_trees : OneTreeLaw → AllTreesLaw
all_trees law image pending old new olds news trees afters array pairs by_array known chunk_parts root_parts named left a =
    all_parts law image pending old new olds news trees afters array pairs by_array known chunk_parts root_parts named left a

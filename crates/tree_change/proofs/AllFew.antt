-- The looks for all that changes from an accepted image to another are few, by what changes.
use Rattle.std.proofs.Common.{◌≡◌, ℕ, ◌+◌, ◌*◌, ◌≤◌, ◌<◌, ◌==◌, ◌⊎◌, inl, inr, ◌&&◌, ◌^◌, not, Bool, true, false, List, length, refl, ap, sym, subst, ◌∙◌, arith, if◌then◌else◌}
use Rattle.std.proofs.lemmas.Bool.{eqb-true}
use Rattle.std.proofs.lemmas.List.Sorted.{length_permutation}
use Rattle.std.specs.Prelude.{Option, Some, None, Result, Ok, Err, is_some, map}
use Rattle.std.specs.List.{AllByRecursion}
use Rattle.verdict.proofs.Truth.{never as yes_no}
use Rattle.walk_laws.proofs.Trees.{step_ok}
use Rattle.verdict.proofs.Lists.{all_map as each_map}
use Rattle.verdict.specs.Chunks.{place}
use Rattle.verdict.specs.Items.{is_multiple}
use Rattle.verdict.specs.Rules.{finding_or}
use Rattle.verdict.specs.declared.finding.Finding.{Finding}
use Rattle.verdict.specs.declared.place.Chunk.{Chunk}
use Rattle.write_cache.specs.Pieces.{ArePiecesOf, Piece}
use Rattle.live_index.specs.Pairs.{AreNarrow, Pairs, no_pairs}
use Rattle.live_index.specs.Table.{pairs_of}
use Rattle.live_index.specs.declared.live.Live.{Live}
use Rattle.node_reader.specs.Stored.{bytes_at, stored_in}
use Rattle.node_reader.specs.Stored.CopyFault.{NoPlace}
use Rattle.super_reader.specs.Superblock.{array_place}
use Rattle.super_reader.specs.declared.Super.{Super}
use Rattle.volume_items.specs.SystemArray.{array_chunks}
use Rattle.records.specs.Contents.{all_records, chunk_map_in, chunk_tree_root, root_items_in, root_tree_root, roots_fault}
use Rattle.records.specs.Seen.{Seen}
use Rattle.records.specs.Walk.{walk_in}
use Rattle.records.specs.WalkLaw.{visited}
use Rattle.touched_blocks.specs.Looks.{ArePlaced, NoneMeet, copies_of, has_place}
use Rattle.touched_blocks.specs.Marking.{AreLow, AreMarked, ClimbsTo, HaveEach, marks_for}
use Rattle.touched_blocks.specs.Marks.{AreAmong, count_of, in_lives, marked_by, no_mark}
use Rattle.touched_blocks.specs.Moves.{AreApart, is_moved}
use Rattle.touched_blocks.specs.OneTree.{in_tree, of_tree}
use Rattle.touched_blocks.specs.Spots.{at_address}
use Rattle.touched_blocks.specs.Touched.{same_place, touches_block, written_in}
use Rattle.tree_laws.specs.ArrayLaw.{HasArray, IsAsByAll}
use Rattle.tree_laws.specs.Keeping.{live_at}
use Rattle.tree_laws.specs.LivePairs.{Walked, live_in, walked}
use Rattle.tree_laws.specs.Shared.{are_read_alike, is_shared, unshared_in}
use Rattle.tree_laws.specs.ShiftedLaw.{is_shifted, shifted_in}
use Rattle.tree_laws.specs.TableLaw.{Tree, trees_in}
use Rattle.tree_laws.specs.VisitsLaw.{entries_at, entries_in}
use Rattle.tree_laws.proofs.ArrayPlaces.{as_by_all}
use Rattle.tree_laws.proofs.Lives.{lives_are}
use Rattle.tree_laws.proofs.Treed.{Steps, steps_of}
use Rattle.tree_change.specs.Accepted.{AreMarkedTouched, AreUnshared, IsWalked, IsWellFormed, unshared_old}
use Rattle.tree_change.specs.AllLooks.{FewForMap, FewForRest, FewFromOld}
use Rattle.tree_change.specs.AllTrees.{AreAllParts, IsAll, IsOver, gone_all, named_parts, with_parts}
use Rattle.tree_change.specs.Change.{IsChange}
use Rattle.tree_change.specs.Compared.{HasNewMap, IsCompared, KeepsBy, judged_by, side_to}
use Rattle.tree_change.specs.FewLooks.{few_looks}
use Rattle.tree_change.specs.Looks.{gone_all_looks, named_looks, tree_looks}
use Rattle.tree_change.specs.LooksLaw.{entries_of}
use Rattle.tree_change.specs.Merging.{IsSortedOf, roots_left}
use Rattle.tree_change.specs.OneTree.{IsTree, KnowsNothing, KnowsTree, side_of, unchanged}
use Rattle.tree_change.specs.Stays.{RootsStand}
use Rattle.tree_change.specs.Told.{side_with}
use Rattle.tree_change.specs.Rising.{MarksAll}
use Rattle.tree_change.specs.Unchanged.{changed_in, is_unchanged, unchanged_shifted}
use Rattle.tree_change.specs.Walks.{Known, Parts, Side, tree_parts}
use Rattle.tree_change.specs.declared.change.Change.{Change}
use Rattle.tree_change.specs.declared.sides.Compared.{Compared}
use Rattle.tree_change.proofs.Accepting.{accepted, of_chunk_pair}
use Rattle.tree_change.proofs.AllTrees.{all_trees, moved_all, named_trees, olds_named}
use Rattle.tree_change.proofs.ArrayFew.{array_few}
use Rattle.tree_change.proofs.ArraySound.{array_sound}
use Rattle.tree_change.proofs.ByArray.{array_known}
use Rattle.tree_change.proofs.ByMap.{new_apart, over_by, root_tree, roots_stand, was_is, size_some}
use Rattle.tree_change.proofs.Chunks.{chunks_found}
use Rattle.tree_change.proofs.Contents.{all_found}
use Rattle.tree_change.proofs.EachTree.{one_tree}
use Rattle.tree_change.proofs.Entries.{few_for_none, few_marks_for}
use Rattle.tree_change.proofs.FewSums.{entries_permuted, entries_as, all_mapped, fewer_as, most, wide, both_cost, trees_total, all_total, entries_fewer, as_change, as_shifted}
use Rattle.tree_change.proofs.Gone.{gone as gone_law}
use Rattle.tree_change.proofs.Levels.{IsLow, roots_low, supers_low}
use Rattle.tree_change.proofs.ShiftedSums.{shifted_all_joins, shifted_cost, shifted_gone, shifted_named, moved_tree}
use Rattle.tree_change.proofs.MarksKnown.{marks_all}
use Rattle.tree_change.proofs.MovesFew.{among_others, fewer, have_those, looks_few, moves_marked, others, passes, split_marks, those, tree_moves_marked}
use Rattle.tree_change.proofs.Named.{named as named_law}
use Rattle.tree_change.proofs.Olds.{same_ok}
use Rattle.tree_change.proofs.Readable.{readable}
use Rattle.tree_change.proofs.RisenShared.{shared_is}
use Rattle.tree_change.proofs.RootItems.{roots_made}
use Rattle.tree_change.proofs.TreeSums.{all_cost, gone_all_sum, named_sum, tree_cost, tree_sum}
use Rattle.tree_change.proofs.Unordered.{all_filter}
use Rattle.volume_items.specs.declared.root_at.RootAt.{RootAt}
use Rattle.tree_laws.specs.MergedLaw.{root_before}

-- a result is a value, where it is no finding
value_of : {A : Type 0} (result : Result A Finding) → ((finding : Finding) → result ≡ Err finding → ⊥) → (value : A) × (result ≡ Ok value)
value_of (Err finding) never = elim (never finding refl) [ ]
value_of (Ok value) never = (value, refl)

not_both : {A : Type 0} (result : Result A Finding) (value : A) (finding : Finding) → result ≡ Ok value → result ≡ Err finding → ⊥
not_both result value finding is other = cc

-- what is known, as it is said by its parts
known_same : (k : Known) (pairs : Pairs) (marked : ℕ → ℕ → Bool) (moved : ℕ → Bool) → k.pairs ≡ pairs → k.marked ≡ marked → k.moved ≡ moved
    → record k { pairs = pairs; marked = marked; moved = moved } ≡ k
known_same k pairs marked moved a b c = λ i. record k { pairs = sym a i; marked = sym b i; moved = sym c i }

-- What is known of the image as it was, in the words of what is compared.
module _ {L : Type 0} (both : Compared L) (image : List ℕ) (c : IsCompared both image) (before after : ℕ) (f : FewFromOld both image before after)
    (seen : List Seen) where
  abbrev old : Walked
  old = c.based.old

  abbrev chunks : List Chunk
  chunks = f.looks.chunks

  abbrev array : List Chunk
  array = f.looks.array

  abbrev pub new : Walked
  new = record { sup = both.fresh.now; chunks = chunks; seen = seen }

  abbrev judged : List ℕ
  judged = judged_by both image

  abbrev pairs : Pairs
  pairs = pairs_of both.table.now

  abbrev kept : Pairs
  kept = pairs_of both.kept.now

  abbrev nodesize : ℕ
  nodesize = both.was.sup.now.nodesize

  abbrev fm : FewForMap both array image f.middle f.looks.middle
  fm = f.looks.for_map

  abbrev fr : FewForRest both chunks image f.looks.middle f.looks.later
  fr = f.looks.for_rest

  abbrev left : List Live
  left = unshared_old image both.cache.now old new

  at_both : (P : Super → List Chunk → ℕ → Type 0) → P old.sup old.chunks (length image) → P both.was.sup.now both.was.map.now both.was.end
  at_both P is =
      subst (λ s. P s both.was.map.now both.was.end) (sym c.based.super_is)
      (subst (λ m. P old.sup m both.was.end) (sym c.based.chunks_are) (subst (λ n. P old.sup old.chunks n) (sym c.end) is))

  at_old : (P : Super → List Chunk → ℕ → Type 0) → P both.was.sup.now both.was.map.now both.was.end → P old.sup old.chunks (length image)
  at_old P is =
      subst (λ n. P old.sup old.chunks n) c.end
      (subst (λ m. P old.sup m both.was.end) c.based.chunks_are (subst (λ s. P s both.was.map.now both.was.end) c.based.super_is is))

  no_pair : kept ≡ no_pairs → (tree address : ℕ) → is_some (kept tree address) ≡ true → ⊥
  no_pair none tree address some =
      yes_no (is_some (kept tree address)) some (ap (λ (ps : Pairs). is_some (ps tree address)) none)

  kept_some : kept ≡ pairs → (tree address : ℕ) → is_some (kept tree address) ≡ true → is_some (pairs tree address) ≡ true
  kept_some same tree address some = subst (λ (ps : Pairs). is_some (ps tree address) ≡ true) same some

  walked_is : IsWalked image old pairs
  walked_is = record { walks = c.based.walks; pairs_are = c.based.pairs_are }

  formed : IsWellFormed image old pairs
  formed = accepted.well_formed image old pairs walked_is

  unshared : AreUnshared image both.cache.now old new pairs
  unshared = accepted.unshared image both.cache.now old new pairs walked_is

  sized : 0 < nodesize
  sized = size_some nodesize f.fits.was_size

  apart : AreApart both.was.map.now
  apart = subst AreApart (sym c.based.chunks_are) formed.apart

  unmet : NoneMeet (copies_of both.was.map.now)
  unmet = subst (λ m. NoneMeet (copies_of m)) (sym c.based.chunks_are) formed.unmet

  placed : ArePlaced kept both.was.map.now nodesize both.was.end
  placed = by f.fits.keeps
    where
      by : KeepsBy both.was.sup.now both.fresh.now pairs kept → ArePlaced kept both.was.map.now nodesize both.was.end
      by (inl k) tree address some =
          at_both (λ sup map n. has_place (place map address sup.nodesize n) ≡ true) (formed.placed tree address (kept_some k.1 tree address some))
      by (inr k) tree address some = elim (no_pair k.1 tree address some) [ ]

  low : AreLow kept
  low = by f.fits.keeps
    where
      by : KeepsBy both.was.sup.now both.fresh.now pairs kept → AreLow kept
      by (inl k) = subst AreLow (sym k.1) formed.low
      by (inr k) = λ tree address live is. elim (no_pair k.1 tree address (ap is_some is)) [ ]

  -- the pairs that are marked since writes touch them, or one below, are not shared
  touched_among : AreAmong (marked_by both.marks.now) left
  touched_among = by f.fits.keeps
    where
      touched : kept ≡ pairs → AreMarkedTouched image both.cache.now old pairs (marked_by both.marks.now)
      touched same =
          subst (λ ps. AreMarkedTouched image both.cache.now old ps (marked_by both.marks.now)) same
          (at_old (λ sup map n. AreMarked kept (at_address (touches_block (written_in both.cache.now) map sup.nodesize n)) no_mark
          (marked_by both.marks.now)) f.fits.marked)

      by : KeepsBy both.was.sup.now both.fresh.now pairs kept → AreAmong (marked_by both.marks.now) left
      by (inl k) = unshared.marked c.narrow (marked_by both.marks.now) (touched k.1)
      by (inr k) = λ tree address here. one tree address (f.fits.marked.only tree address here)
        where
          one : (tree address : ℕ) → (false ≡ true) ⊎ ((from : ℕ)
              × (at_address (touches_block (written_in both.cache.now) both.was.map.now nodesize both.was.end) tree from ≡ true)
              × (is_some (kept tree from) ≡ true) × ClimbsTo kept tree address from) → in_lives left tree address ≡ true
          one tree address (inl was) = absurd (cc)
          one tree address (inr h) = elim (no_pair k.1 tree h.0 h.2) [ ]

  -- so no more are marked than these
  touched_few : count_of both.marks.now ≤ length left
  touched_few = f.few_marks left touched_among

  -- how many marks are enough for these, by their entries
  marks_few : 10 * marks_for kept left ≤ 27 * length left + 53 * entries_of (side_of image old) left
  marks_few = by f.fits.keeps
    where
      by : KeepsBy both.was.sup.now both.fresh.now pairs kept → 10 * marks_for kept left ≤ 27 * length left + 53 * entries_of (side_of image old) left
      by (inl k) =
          subst (λ (ps : Pairs). 10 * marks_for ps left ≤ 27 * length left + 53 * entries_of (side_of image old) left) (sym k.1)
          (few_marks_for image old pairs walked_is left)
      by (inr k) =
          subst (λ (ps : Pairs). 10 * marks_for ps left ≤ 27 * length left + 53 * entries_of (side_of image old) left) (sym k.1)
          (few_for_none (side_of image old) left)

  -- a marked pair is one of those by which blocks are kept, which have ids and addresses of 64 bits
  marked_known : (tree address : ℕ) → marked_by both.marks.now tree address ≡ true → is_some (kept tree address) ≡ true
  marked_known tree address here = by f.fits.keeps
    where
      known : MarksAll image both.cache.now old new (trees_in old.sup old.chunks old.chunks c.based.olds image) pairs (marked_by both.marks.now)
      known = marks_all both both.was.end image f.fits c new refl

      by : KeepsBy both.was.sup.now both.fresh.now pairs kept → is_some (kept tree address) ≡ true
      by (inl k) = subst (λ (ps : Pairs). is_some (ps tree address) ≡ true) (sym k.1) (known.known tree address here)
      by (inr k) =
          absurd (yes_no (are_read_alike both.was.sup.now both.fresh.now)
          (ap (λ s. are_read_alike s both.fresh.now) c.based.super_is ∙ known.only tree address here) k.0)

  narrow : AreNarrow kept
  narrow tree address some = by f.fits.keeps
    where
      by : KeepsBy both.was.sup.now both.fresh.now pairs kept → (tree < 2 ^ 64) × (address < 2 ^ 64)
      by (inl k) = c.narrow tree address (kept_some k.1 tree address some)
      by (inr k) = elim (no_pair k.1 tree address some) [ ]

  -- the looks to mark what moves by all chunks and to list it are few
  rest_moves : AreApart chunks → 2 * fr.moved + 3 * fr.marks ≤ 5 * marks_for kept left
  rest_moves apart_new =
      looks_few fr.moved fr.marks (marks_for kept (those at left)) (length (others at left)) (marks_for kept left)
      (fr.moves.few low (those at left) (have_those at left kept moves each (λ tree address is some. is)))
      (fr.moves.more (others at left)
      (among_others at left (marked_by both.marks.now) fr.moving touched_among
      (λ tree address here is. moves_marked kept both.was.map.now chunks nodesize both.was.end fr.moving narrow placed (fr.moves.moved apart_new sized)
      tree address (marked_known tree address here) is)))
      (split_marks kept (passes at left) left)
    where
      moves : ℕ → Bool
      moves = is_moved both.was.map.now chunks nodesize both.was.end

      at : ℕ → ℕ → Bool
      at tree address = moves address

      each : HaveEach kept moves left
      each tree address is some = by f.fits.keeps
        where
          by : KeepsBy both.was.sup.now both.fresh.now pairs kept → in_lives left tree address ≡ true
          by (inl k) =
              unshared.moved tree address (at_old (λ sup map n. is_moved map chunks sup.nodesize n address ≡ true) is)
              (kept_some k.1 tree address some)
          by (inr k) = elim (no_pair k.1 tree address some) [ ]

  module _ (walks : walked judged ≡ Ok new) where
    abbrev steps : Steps judged new
    steps = steps_of judged new walks

    has_old : HasArray image old fm.old_array
    has_old = record {
      walks = c.based.walks;
      array_is = ap (λ (s : Super). array_chunks (array_place s) s.array s.array_size) (sym c.based.super_is) ∙ fm.array_is;
    }

    has_new : HasArray judged new array
    has_new = record { walks = walks; array_is = f.looks.array_is }

    -- the chunks of the old array, without those that repeat
    distinct : AreApart fm.olds × ((address n end : ℕ) → place fm.olds address n end ≡ place fm.old_array address n end)
    distinct = let sound = array_sound image old fm.old_array has_old in fm.olds_are sound.0 sound.1

    -- what is in the chunk tree by these is so of it in the whole table
    of_chunks : (P : ℕ → ℕ → Type 0) → ((address : ℕ) → is_some (kept 3 address) ≡ true → P 3 address)
        → (tree address : ℕ) → is_some (of_tree 3 kept tree address) ≡ true → P tree address
    of_chunks P each tree address some = by (tree == 3) refl some
      where
        by : (b : Bool) → (tree == 3) ≡ b → is_some (if b then kept tree address else None) ≡ true → P tree address
        by true is some =
            let three = eqb-true tree 3 is in
            subst (λ t. P t address) (sym three) (each address (subst (λ t. is_some (kept t address) ≡ true) three some))
        by false is some = absurd (cc)

    map_placed : ArePlaced (of_tree 3 kept) fm.olds nodesize both.was.end
    map_placed = of_chunks (λ tree address. has_place (place fm.olds address nodesize both.was.end) ≡ true) (λ address some. by address some f.fits.keeps)
      where
        stands : (address : ℕ) → is_some (pairs 3 address) ≡ true
            → place fm.old_array address old.sup.nodesize (length image) ≡ place old.chunks address old.sup.nodesize (length image)
        stands address some =
            of_chunk_pair image old fm.old_array
            (λ a. place fm.old_array a old.sup.nodesize (length image) ≡ place old.chunks a old.sup.nodesize (length image)) has_old
            (each_map (IsAsByAll image old fm.old_array)
            (λ v. place fm.old_array v.address old.sup.nodesize (length image) ≡ place old.chunks v.address old.sup.nodesize (length image))
            (visited old.sup (stored_in image fm.old_array old.sup.nodesize) (chunk_tree_root old.sup)) (λ v h. h.stands)
            (as_by_all image old fm.old_array has_old)) address
            (subst (λ (entry : Option Live). is_some entry ≡ true) (c.based.pairs_are 3 address) some)

        by : (address : ℕ) → is_some (kept 3 address) ≡ true → KeepsBy both.was.sup.now both.fresh.now pairs kept
            → has_place (place fm.olds address nodesize both.was.end) ≡ true
        by address some (inl k) =
            let here = kept_some k.1 3 address some in
            at_both (λ sup map n. has_place (place fm.olds address sup.nodesize n) ≡ true)
            (ap has_place (distinct.1 address old.sup.nodesize (length image) ∙ stands address here) ∙ formed.placed 3 address here)
        by address some (inr k) = elim (no_pair k.1 3 address some) [ ]

    -- so are those for the chunk tree, by the chunks of the system arrays
    map_moves : 2 * fm.moved + 3 * fm.marks ≤ 5 * marks_for kept left
    map_moves =
        looks_few fm.moved fm.marks (marks_for kept (those at left)) (length (others at left)) (marks_for kept left)
        (fm.moves.few low (those at left) (have_those at left (of_tree 3 kept) moves each here))
        (fm.moves.more (others at left)
        (among_others at left (marked_by both.marks.now) fm.moving touched_among
        (λ tree address mark is. tree_moves_marked 3 kept fm.olds fm.some nodesize both.was.end fm.moving narrow map_placed
        (fm.moves.moved fm.apart sized) tree address (marked_known tree address mark) is)))
        (split_marks kept (passes at left) left)
      where
        moves : ℕ → Bool
        moves = is_moved fm.olds fm.some nodesize both.was.end

        at : ℕ → ℕ → Bool
        at = in_tree 3 moves

        here : (tree address : ℕ) → moves address ≡ true → is_some (of_tree 3 kept tree address) ≡ true → at tree address ≡ true
        here tree address is some = by (tree == 3) some
          where
            by : (b : Bool) → is_some (if b then kept tree address else None) ≡ true → (b && moves address) ≡ true
            by true some = is
            by false some = absurd (cc)

        three : (address : ℕ) → is_moved fm.olds fm.some nodesize both.was.end address ≡ true → is_some (kept 3 address) ≡ true
            → KeepsBy both.was.sup.now both.fresh.now pairs kept → in_lives left 3 address ≡ true
        three address moves some (inl k) =
            let end = both.was.end in
            let same : is_moved fm.olds fm.some nodesize end address ≡ is_moved fm.old_array array nodesize end address =
            ap (λ p. not (same_place p (place fm.some address nodesize end))) (distinct.1 address nodesize end)
            ∙ ap (λ p. not (same_place (place fm.old_array address nodesize end) p)) (fm.same_place address nodesize end) in
            unshared.by_array fm.old_array array has_old has_new address
            (at_old (λ sup map n. is_moved fm.old_array array sup.nodesize n address ≡ true) (sym same ∙ moves))
            (kept_some k.1 3 address some)
        three address moves some (inr k) = elim (no_pair k.1 3 address some) [ ]

        each : HaveEach (of_tree 3 kept) (is_moved fm.olds fm.some nodesize both.was.end) left
        each tree address moves some =
            of_chunks (λ t a. is_moved fm.olds fm.some nodesize both.was.end a ≡ true → in_lives left t a ≡ true)
            (λ a some moved. three a moved some f.fits.keeps) tree address some moves

    -- ---- what changes in each tree

    abbrev olds : List RootAt
    olds = c.based.olds

    abbrev was : Side
    was = side_of image old

    abbrev side : Side
    side = side_to both image chunks

    abbrev array_side : Side
    array_side = side_to both image array

    abbrev trees : List Tree
    trees = trees_in old.sup old.chunks old.chunks olds image

    has_map : HasNewMap both image chunks
    has_map = (array, f.looks.chunks_are c)

    old_low : (old.sup.root_level < 8) × (old.sup.chunk_root_level < 8)
    old_low = supers_low image old.sup (steps_of image old c.based.walks).sup_is

    new_low : (both.fresh.now.root_level < 8) × (both.fresh.now.chunk_root_level < 8)
    new_low = supers_low judged both.fresh.now c.super_is

    -- the chunk tree
    chunk_tree : IsTree image both.cache.now old trees pairs array_side fm.known (Some (chunk_tree_root old.sup)) (chunk_tree_root both.fresh.now)
    chunk_tree = record {
      has = c.based.has;
      pairs_are = c.based.pairs_are;
      over = refl;
      root = (refl, refl);
      was = (refl, inl refl);
      known_is =
          subst (λ k. KnowsTree image both.cache.now old array_side k (Some (chunk_tree_root old.sup)) ⊎ KnowsNothing old array_side k)
          (known_same fm.known kept (marked_by both.touched.now) (is_moved both.was.map.now array nodesize both.was.end) fm.by_kept fm.marked_is fm.moved_is)
          (array_known both array fm.old_array fm.olds fm.some fm.moving fm.known.under both.was.end f.fits image c fm.array_is fm.homes
          fm.same_place (fm.moves.moved fm.apart sized) fm.moves.listed);
    }

    abbrev chunk_result : Result Parts Finding
    chunk_result = tree_parts pairs fm.known was array_side (Some (chunk_tree_root old.sup)) (chunk_tree_root both.fresh.now)

    chunk_made : (parts : Parts) × (chunk_result ≡ Ok parts)
    chunk_made = value_of chunk_result (λ finding failed.
        not_both (chunk_map_in both.fresh.now array judged) chunks finding (f.looks.chunks_are c)
        (chunks_found one_tree image both.cache.now old trees pairs array_side fm.known chunk_tree finding failed))

    -- all other trees
    over : IsOver image both.cache.now old olds trees pairs side fr.known
    over =
        subst (λ k. IsOver image both.cache.now old olds trees pairs side k)
        (known_same fr.known kept (marked_by both.touched.now) fr.known.moved fr.by_kept fr.marked_is refl)
        (over_by both image chunks c both.was.end fr.moving fr.known.under fr.known.moved f.fits has_map fr.moves.moved fr.moves.listed fr.moved_is)

    root_is : IsTree image both.cache.now old trees pairs side fr.known (Some (root_tree_root old.sup)) (root_tree_root both.fresh.now)
    root_is = root_tree both image chunks c fr.known over

    root_made : tree_parts pairs fr.known was side (Some (root_tree_root old.sup)) (root_tree_root both.fresh.now) ≡ Ok fr.parts
    root_made =
        subst (λ (s : Side). tree_parts pairs fr.known s side (Some (root_tree_root s.sup)) (root_tree_root both.fresh.now) ≡ Ok fr.parts)
        (was_is both image chunks c) fr.tree

    roots_are : root_items_in both.fresh.now chunks judged ≡ Ok fr.roots
    roots_are =
        let made =
        roots_made one_tree image both.cache.now old trees pairs side fr.known fr.parts olds fr.roots c.based.items root_is root_made
        (subst (λ rs. IsSortedOf root_before (roots_left rs fr.parts.old_items fr.parts.new_items) fr.roots) c.based.roots_are fr.merged) in
        let step =
        step_ok (finding_or (roots_fault both.fresh.now.compat_ro fr.roots) (tt {0})) (λ _. Ok fr.roots) steps.roots (sym made ∙ steps.items) in
        steps.items ∙ sym step.2

    named_made : (parts : Parts) × (named_parts pairs fr.known was side olds fr.roots ≡ Ok parts)
    named_made = value_of (named_parts pairs fr.known was side olds fr.roots) (λ finding failed.
        not_both (all_records both.fresh.now steps.array chunks fr.roots judged) seen finding
        (subst (λ rs. all_records both.fresh.now steps.array chunks rs judged ≡ Ok seen)
        (same_ok steps.roots fr.roots (sym steps.items ∙ roots_are)) steps.records)
        (all_found judged both.fresh.now c.super_is steps.array steps.arrays chunks steps.chunks_are fr.roots roots_are finding
        ((named_law one_tree image both.cache.now old olds trees pairs side fr.known fr.roots over).0 finding failed)))

    gone_made : (parts : Parts) × (gone_all pairs fr.known was fr.roots olds ≡ Ok parts)
    gone_made = value_of (gone_all pairs fr.known was fr.roots olds) (λ finding failed.
        gone_law image both.cache.now old olds trees pairs side fr.known fr.roots finding over failed)

    abbrev parts : Parts
    parts = with_parts chunk_made.0 (with_parts fr.parts (with_parts named_made.0 gone_made.0))

    abbrev afters : List Tree
    afters = trees_in both.fresh.now chunks chunks fr.roots judged

    all_is : IsAll image both.cache.now old new olds fr.roots trees afters array pairs fm.known fr.known chunk_made.0 fr.parts named_made.0 gone_made.0
    all_is = record {
      over = over;
      has = record { walks = walks; roots = fr.roots; items = roots_are; trees_are = refl };
      afters_are = refl;
      array_is = has_new;
      array_known = chunk_tree.known_is;
      chunk_tree = chunk_made.1;
      root_tree = root_made;
      named_trees = named_made.1;
      gone_trees = gone_made.1;
    }

    all_parts : AreAllParts old new both.cache.now (length image) parts
    all_parts =
        all_trees one_tree image both.cache.now old new olds fr.roots trees afters array pairs fm.known fr.known chunk_made.0 fr.parts named_made.0
        gone_made.0 all_is

    -- ---- what the walks cost

    same_alike : both.is_same ≡ are_read_alike old.sup side.sup
    same_alike = f.alike ∙ ap (λ s. are_read_alike s both.fresh.now) c.based.super_is

    low_olds : AllByRecursion IsLow olds
    low_olds = roots_low old.sup old.chunks image olds c.based.items

    chunk_cost : tree_looks fm.known (side_with both.was image) array_side (Some (chunk_tree_root both.was.sup.now)) (chunk_tree_root both.fresh.now)
        ≤ 7 + tree_cost was array_side chunk_made.0
    chunk_cost =
        subst (λ (s : Side). tree_looks fm.known s array_side (Some (chunk_tree_root s.sup)) (chunk_tree_root both.fresh.now)
        ≤ 7 + tree_cost was array_side chunk_made.0) (sym (was_is both image chunks c))
        (tree_sum image both.cache.now old trees pairs array_side fm.known (Some (chunk_tree_root old.sup)) (chunk_tree_root both.fresh.now) chunk_made.0
        chunk_tree new_low.1 old_low.1 chunk_made.1)

    root_cost : tree_looks fr.known (side_with both.was image) side (Some (root_tree_root both.was.sup.now)) (root_tree_root both.fresh.now)
        ≤ 7 + tree_cost was side fr.parts
    root_cost =
        subst (λ (s : Side). tree_looks fr.known s side (Some (root_tree_root s.sup)) (root_tree_root both.fresh.now) ≤ 7 + tree_cost was side fr.parts)
        (sym (was_is both image chunks c))
        (tree_sum image both.cache.now old trees pairs side fr.known (Some (root_tree_root old.sup)) (root_tree_root both.fresh.now) fr.parts root_is
        new_low.0 old_low.0 root_made)

    named_cost : named_looks both.is_same fr.known (side_with both.was image) side both.roots.now fr.roots ≤ all_cost was side named_made.0
    named_cost =
        subst (λ s. named_looks both.is_same fr.known s side both.roots.now fr.roots ≤ all_cost was side named_made.0) (sym (was_is both image chunks c))
        (subst (λ rs. named_looks both.is_same fr.known was side rs fr.roots ≤ all_cost was side named_made.0) (sym c.based.roots_are)
        (named_sum image both.cache.now old olds trees pairs side fr.known both.is_same same_alike low_olds fr.roots named_made.0
        (named_trees one_tree image both.cache.now old new olds fr.roots trees afters array pairs fm.known fr.known chunk_made.0 fr.parts
        named_made.0 gone_made.0 all_is) (roots_low both.fresh.now chunks judged fr.roots roots_are) named_made.1))

    gone_cost : gone_all_looks fr.known (side_with both.was image) fr.roots both.roots.now ≤ all_cost was side gone_made.0
    gone_cost =
        subst (λ s. gone_all_looks fr.known s fr.roots both.roots.now ≤ all_cost was side gone_made.0) (sym (was_is both image chunks c))
        (subst (λ rs. gone_all_looks fr.known was fr.roots rs ≤ all_cost was side gone_made.0) (sym c.based.roots_are)
        (gone_all_sum image both.cache.now old olds trees pairs side fr.known both.is_same same_alike low_olds c.based.has c.based.pairs_are
        fr.roots olds gone_made.0
        (olds_named one_tree image both.cache.now old new olds fr.roots trees afters array pairs fm.known fr.known chunk_made.0 fr.parts
        named_made.0 gone_made.0 all_is) low_olds gone_made.1))

    -- ---- the blocks of the chunk tree, by all chunks

    array_stored : (address : ℕ)
        → place array address both.fresh.now.nodesize (length judged) ≡ place chunks address both.fresh.now.nodesize (length judged)
        → stored_in judged array both.fresh.now.nodesize address ≡ stored_in judged chunks both.fresh.now.nodesize address
    unfolding stored_in
    array_stored address same = ap (λ p. if is_multiple address then bytes_at both.fresh.now.nodesize judged p else Err NoPlace) same

    abbrev IsSame : Live → Type 0
    IsSame live =
        entries_at (stored_in judged array both.fresh.now.nodesize) live.address ≡ entries_at (stored_in judged chunks both.fresh.now.nodesize) live.address

    chunk_entries : entries_of array_side chunk_made.0.new_blocks ≡ entries_of side chunk_made.0.new_blocks
    unfolding walk_in
    chunk_entries =
        let stored = stored_in judged array both.fresh.now.nodesize in
        let root = chunk_tree_root both.fresh.now in
        let gives = (one_tree image both.cache.now old trees pairs array_side fm.known (Some (chunk_tree_root old.sup)) root chunk_tree).parts
        chunk_made.0 chunk_made.1 in
        let each : AllByRecursion (λ v. IsSame (live_at both.fresh.now stored v)) (visited both.fresh.now stored root) =
        each_map (IsAsByAll judged new array) (λ v. IsSame (live_at both.fresh.now stored v)) (visited both.fresh.now stored root)
        (λ v h. ap entries_in (array_stored v.address h.stands)) (as_by_all judged new array has_new) in
        let lives : AllByRecursion IsSame (live_in gives.1) =
        subst (AllByRecursion IsSame) (sym (lives_are both.fresh.now stored root gives.1 gives.3))
        (all_mapped IsSame (live_at both.fresh.now stored) (visited both.fresh.now stored root) each) in
        entries_as array_side side chunk_made.0.new_blocks
        (subst (AllByRecursion IsSame) (sym gives.4.new_blocks)
        (all_filter IsSame (λ live. not (unchanged image both.cache.now old array_side gives.1 live)) (live_in gives.1) lives))

    -- ---- all

    abbrev come : List Live
    come = unshared_in old new (written_in both.cache.now) (length image) new

    trees_cost : tree_looks fm.known (side_with both.was image) array_side (Some (chunk_tree_root both.was.sup.now)) (chunk_tree_root both.fresh.now)
        + (tree_looks fr.known (side_with both.was image) side (Some (root_tree_root both.was.sup.now)) (root_tree_root both.fresh.now)
        + named_looks both.is_same fr.known (side_with both.was image) side both.roots.now fr.roots
        + gone_all_looks fr.known (side_with both.was image) fr.roots both.roots.now)
        ≤ 14 + all_cost was side parts
    trees_cost =
        let p = chunk_made.0 in
        let q = fr.parts in
        let first = wide (entries_of array_side p.new_blocks) (entries_of side p.new_blocks) (entries_of was p.old_blocks) (length p.new_blocks)
        (length p.old_blocks) chunk_entries in
        let second = wide (entries_of side q.new_blocks) (entries_of side q.new_blocks) (entries_of was q.old_blocks) (length q.new_blocks)
        (length q.old_blocks) refl in
        trees_total _ _ _ _ (tree_cost was array_side p) (tree_cost was side q) (all_cost was side p) (all_cost was side q)
        (all_cost was side named_made.0) (all_cost was side gone_made.0)
        (all_cost was side (with_parts named_made.0 gone_made.0)) (all_cost was side (with_parts q (with_parts named_made.0 gone_made.0)))
        (all_cost was side parts) chunk_cost root_cost named_cost gone_cost first second
        (both_cost was side named_made.0 gone_made.0) (both_cost was side q (with_parts named_made.0 gone_made.0))
        (both_cost was side p (with_parts q (with_parts named_made.0 gone_made.0)))

    -- of what is not shared a part changed
    abbrev gone : List Live
    gone = changed_in old new (written_in both.cache.now) (length image) old

    abbrev came : List Live
    came = changed_in old new (written_in both.cache.now) (length image) new

    abbrev shared : Live → Bool
    shared = is_shared old new (written_in both.cache.now) (length image)

    abbrev same : Live → Bool
    same = is_unchanged old new (written_in both.cache.now) (length image)

    -- a shared pair is unchanged
    same_if : (live : Live) → shared live ≡ true → same live ≡ true
    same_if live is =
        first (same live) (not (marked_by both.marks.now live.tree live.address))
        (sym (shared_is image both.cache.now old new trees c.based.has (marked_by both.marks.now)
        (marks_all both both.was.end image f.fits c new refl).trees_are live) ∙ is)
      where
        first : (a b : Bool) → (a && b) ≡ true → a ≡ true
        first true b is = refl
        first false b is = is

    unshared_if : (live : Live) → not (same live) ≡ true → not (shared live) ≡ true
    unshared_if live is = by (shared live) refl is
      where
        by : (b : Bool) → shared live ≡ b → not (same live) ≡ true → not b ≡ true
        by false here is = refl
        by true here is = let must = same_if live here in absurd (cc)

    pub few_all : (pieces : List Piece) → ArePiecesOf both.cache.now pieces
        → after ≤ before + (length pieces + 4 * length old.chunks + length chunks + 77 + 58 * length left + 35 * length come
        + 56 * entries_of was left + 4 * entries_of side come)
    few_all pieces are =
        let p : Live → Bool = λ live. not (same live) in
        let q : Live → Bool = λ live. not (shared live) in
        all_total before f.middle f.looks.middle f.looks.later after (count_of both.marks.now) fm.moved fm.marks fr.moved fr.marks (marks_for kept left)
        (length pieces) (length both.was.map.now) (length old.chunks) (length chunks) (length fm.olds) (length fm.some) _ _
        (entries_of side parts.new_blocks) (entries_of was parts.old_blocks) (length parts.new_blocks) (length parts.old_blocks)
        (entries_of side come) (entries_of was left) (length come) (length left)
        (f.touched pieces are placed apart sized unmet)
        (fm.looks map_placed distinct.0 fm.apart sized)
        (fr.looks placed apart (new_apart both image chunks c has_map) sized)
        (rewrote (length gone) (length parts.old_blocks) (length_permutation gone parts.old_blocks all_parts.old_blocks)
        (f.looks.to_rise c new walks))
        (ap length c.based.chunks_are) touched_few map_moves (rest_moves (new_apart both image chunks c has_map))
        (most fm.few_olds (array_few (array_place both.was.sup.now) both.was.sup.now.array both.was.sup.now.array_size fm.old_array f.fits.was_array fm.array_is))
        (most fm.few_some (array_few (array_place both.fresh.now) both.fresh.now.array both.fresh.now.array_size array
        (readable judged both.fresh.now c.super_is).array f.looks.array_is))
        trees_cost
        (fewer_as (entries_permuted side came parts.new_blocks all_parts.new_blocks) (entries_fewer side p q unshared_if (live_in new.seen)))
        (fewer_as (entries_permuted was gone parts.old_blocks all_parts.old_blocks) (entries_fewer was p q unshared_if (live_in old.seen)))
        (fewer_as (length_permutation came parts.new_blocks all_parts.new_blocks) (fewer p q unshared_if (live_in new.seen)))
        (fewer_as (length_permutation gone parts.old_blocks all_parts.old_blocks) (fewer p q unshared_if (live_in old.seen))) marks_few
      where
        rewrote : (g b : ℕ) → b ≡ g → after + g ≤ f.looks.later + length left → after + b ≤ f.looks.later + length left
        rewrote g b here few = omega (arith, here, few)

    -- ---- the shared pairs that are shifted

    by_old : both.is_same ≡ true → fr.known.pairs ≡ pairs
    by_old same = fr.by_kept ∙ ap pairs_of (both.same same)

    parts_shifted : length parts.shifted ≤ 2 + shifted_cost side parts
    parts_shifted =
        let p = chunk_made.0 in
        let stand : RootsStand pairs olds = subst (RootsStand pairs) c.based.roots_are (roots_stand both image chunks c) in
        let chunk =
        moved_tree image both.cache.now old trees pairs array_side fm.known (Some (chunk_tree_root old.sup)) (chunk_tree_root both.fresh.now) p chunk_tree
        new_low.1 old_low.1 chunk_made.1 in
        shifted_all_joins side p fr.parts named_made.0 gone_made.0
        (subst (λ n. length p.shifted ≤ 1 + (n + 7 * length p.new_blocks)) chunk_entries chunk)
        (moved_tree image both.cache.now old trees pairs side fr.known (Some (root_tree_root old.sup)) (root_tree_root both.fresh.now) fr.parts root_is
        new_low.0 old_low.0 root_made)
        (shifted_named image both.cache.now old olds trees pairs side fr.known both.is_same same_alike low_olds by_old stand fr.roots named_made.0
        (named_trees one_tree image both.cache.now old new olds fr.roots trees afters array pairs fm.known fr.known chunk_made.0 fr.parts
        named_made.0 gone_made.0 all_is) (roots_low both.fresh.now chunks judged fr.roots roots_are) named_made.1)
        (shifted_gone image both.cache.now old olds trees pairs side fr.known both.is_same same_alike low_olds by_old stand fr.roots olds
        gone_made.0 gone_made.1)

    pub shifted_few : length (shifted_in old new (written_in both.cache.now) (length image)) ≤ 2 + (entries_of side come + 8 * length come + length left)
    shifted_few =
        let p : Live → Bool = λ live. not (same live) in
        let q : Live → Bool = λ live. not (shared live) in
        let shifts : Live → Bool = is_shifted (live_in old.seen) in
        sums (length parts.shifted) (length (unchanged_shifted old new (written_in both.cache.now) (length image)))
        (length (shifted_in old new (written_in both.cache.now) (length image))) (entries_of side parts.new_blocks)
        (length parts.new_blocks) (length parts.old_blocks) (entries_of side come) (length come) (length left) parts_shifted
        (length_permutation (unchanged_shifted old new (written_in both.cache.now) (length image)) parts.shifted
        (moved_all one_tree image both.cache.now old new olds fr.roots trees afters array pairs fm.known fr.known chunk_made.0 fr.parts
        named_made.0 gone_made.0 all_is))
        (fewer (λ live. shared live && shifts live) (λ live. same live && shifts live) (λ live is. both_if live is) (live_in new.seen))
        (fewer_as (entries_permuted side came parts.new_blocks all_parts.new_blocks) (entries_fewer side p q unshared_if (live_in new.seen)))
        (fewer_as (length_permutation came parts.new_blocks all_parts.new_blocks) (fewer p q unshared_if (live_in new.seen)))
        (fewer_as (length_permutation gone parts.old_blocks all_parts.old_blocks) (fewer p q unshared_if (live_in old.seen)))
      where
        sums : (m u s e n o e' n' o' : ℕ) → m ≤ 2 + (e + 8 * n + o) → m ≡ u → s ≤ u → e ≤ e' → n ≤ n' → o ≤ o' → s ≤ 2 + (e' + 8 * n' + o')
        sums m u s e n o e' n' o' x y z w v t = omega (arith, x, y, z, w, v, t)

        both_if : (live : Live) → (shared live && is_shifted (live_in old.seen) live) ≡ true → (same live && is_shifted (live_in old.seen) live) ≡ true
        both_if live is = by (shared live) refl is
          where
            by : (b : Bool) → shared live ≡ b → (b && is_shifted (live_in old.seen) live) ≡ true
                → (same live && is_shifted (live_in old.seen) live) ≡ true
            by true here is = ap (λ b. b && is_shifted (live_in old.seen) live) (same_if live here) ∙ is
            by false here is = absurd (cc)

-- What changes is what all parts have, in some order. So the looks are few by it, and the shared pairs that are shifted.
pub few_change : {L : Type 0} (both : Compared L) (image : List ℕ) (c : IsCompared both image) (before after : ℕ) (f : FewFromOld both image before after)
    (fresh : Walked) (change : Change) → walked (judged_by both image) ≡ Ok fresh
    → IsChange c.based.old fresh (written_in both.cache.now) (length image) change
    → ((pieces : List Piece) → ArePiecesOf both.cache.now pieces
    → after ≤ before + few_looks image (judged_by both image) c.based.old fresh pieces change)
    × (length change.moved.items
    ≤ 2 + (entries_of (side_of (judged_by both image) fresh) change.new_blocks.items + 8 * length change.new_blocks.items
    + length change.old_blocks.items))
few_change both image c before after f fresh change walks is =
    subst (λ (n : Walked). walked judged ≡ Ok n → IsChange c.based.old n (written_in both.cache.now) (length image) change
    → ((pieces : List Piece) → ArePiecesOf both.cache.now pieces → after ≤ before + few_looks image judged c.based.old n pieces change)
    × (length change.moved.items
    ≤ 2 + (entries_of (side_of judged n) change.new_blocks.items + 8 * length change.new_blocks.items + length change.old_blocks.items)))
    new_is plain walks is
  where
    judged : List ℕ
    judged = judged_by both image

    s : Steps judged fresh
    s = steps_of judged fresh walks

    sup_is : both.fresh.now ≡ fresh.sup
    sup_is = same_ok both.fresh.now fresh.sup (sym c.super_is ∙ s.sup_is)

    array_is : f.looks.array ≡ s.array
    array_is =
        same_ok f.looks.array s.array
        (sym f.looks.array_is ∙ ap (λ (sup : Super). array_chunks (array_place sup) sup.array sup.array_size) sup_is ∙ s.arrays)

    chunks_are : f.looks.chunks ≡ fresh.chunks
    chunks_are =
        same_ok f.looks.chunks fresh.chunks
        (sym (f.looks.chunks_are c) ∙ ap (λ sup. chunk_map_in sup f.looks.array judged) sup_is ∙ ap (λ a. chunk_map_in fresh.sup a judged) array_is
        ∙ s.chunks_are)

    made : Walked
    made = record { sup = both.fresh.now; chunks = f.looks.chunks; seen = fresh.seen }

    new_is : made ≡ fresh
    new_is = λ i. record { sup = sup_is i; chunks = chunks_are i; seen = fresh.seen }

    plain : walked judged ≡ Ok made → IsChange c.based.old made (written_in both.cache.now) (length image) change
        → ((pieces : List Piece) → ArePiecesOf both.cache.now pieces → after ≤ before + few_looks image judged c.based.old made pieces change)
        × (length change.moved.items
        ≤ 2 + (entries_of (side_of judged made) change.new_blocks.items + 8 * length change.new_blocks.items + length change.old_blocks.items))
    plain walks is =
        let was = side_of image c.based.old in
        let side = side_of judged made in
        let left = unshared_in c.based.old made (written_in both.cache.now) (length image) c.based.old in
        let come = unshared_in c.based.old made (written_in both.cache.now) (length image) made in
        let old_long = length_permutation left change.old_blocks.items is.old_blocks in
        let new_long = length_permutation come change.new_blocks.items is.new_blocks in
        let new_entries = entries_permuted side come change.new_blocks.items is.new_blocks in
        let shifted = shifted_in c.based.old made (written_in both.cache.now) (length image) in (
          λ pieces are. as_change before after (length pieces + 4 * length c.based.old.chunks + length made.chunks + 77) (length left) (length come)
              (entries_of was left) (entries_of side come) (length change.old_blocks.items) (length change.new_blocks.items)
              (entries_of was change.old_blocks.items) (entries_of side change.new_blocks.items)
              (few_all both image c before after f fresh.seen walks pieces are) old_long new_long
              (entries_permuted was left change.old_blocks.items is.old_blocks) new_entries,
          as_shifted (length shifted) (entries_of side come) (length come) (length left) (length change.moved.items)
              (entries_of side change.new_blocks.items) (length change.new_blocks.items) (length change.old_blocks.items)
              (shifted_few both image c before after f fresh.seen walks) (length_permutation shifted change.moved.items is.moved.all)
              new_entries new_long old_long,
        )

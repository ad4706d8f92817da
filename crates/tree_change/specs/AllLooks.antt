-- How many looks into a table of live pairs may be counted for all that changes from one image to another.
use Rattle.std.specs.Prelude.{ℕ, ◌≡◌, ◌+◌, ◌*◌, ◌^◌, ◌<◌, ◌≤◌, List, length, Option, Some, Ok, IfSome}
use Rattle.std.specs.List.{AllByRecursion}
use Rattle.std.specs.Ordering.{nat_cmp}
use Rattle.std.specs.FinMap.{FinMap}
use Rattle.verdict.specs.Chunks.{home, place}
use Rattle.verdict.specs.declared.place.Chunk.{Chunk}
use Rattle.write_cache.specs.Pieces.{ArePiecesOf, Piece}
use Rattle.live_index.specs.Pairs.{AreNarrow, Pairs}
use Rattle.live_index.specs.Table.{pairs_of}
use Rattle.live_index.specs.declared.kept.LiveIndex.{LiveIndex}
use Rattle.live_index.specs.declared.live.Live.{Live}
use Rattle.super_reader.specs.Superblock.{array_place}
use Rattle.super_reader.specs.declared.Super.{Super}
use Rattle.volume_items.specs.SystemArray.{array_chunks}
use Rattle.volume_items.specs.declared.root_at.RootAt.{RootAt}
use Rattle.records.specs.Contents.{chunk_map_in, chunk_tree_root, root_tree_root}
use Rattle.block_source.specs.declared.read.BlockSource.{BlockSource}
use Rattle.touched_blocks.specs.Looks.{ArePlaced, NoneMeet, copies_of}
use Rattle.touched_blocks.specs.Marking.{AreLow, AreMarkedFrom, HaveEach, marks_for}
use Rattle.touched_blocks.specs.Marks.{AreAmong, count_of, left_of, marked_by, no_mark}
use Rattle.touched_blocks.specs.Moves.{AreApart, held_and_moved, is_moved}
use Rattle.touched_blocks.specs.OneTree.{in_tree, of_tree}
use Rattle.touched_blocks.specs.Spots.{at_address}
use Rattle.touched_blocks.specs.Touched.{written_in}
use Rattle.tree_laws.specs.ArrayMoves.{LieApartOrSame}
use Rattle.tree_laws.specs.Keeping.{Marks, Under}
use Rattle.tree_laws.specs.Listed.{AreListedBy}
use Rattle.tree_laws.specs.LivePairs.{Walked, walked}
use Rattle.tree_laws.specs.Shared.{are_read_alike, unshared_in}
use Rattle.tree_change.specs.Compared.{FitsCompared, HasNewArray, IsCompared, judged_by, side_to}
use Rattle.tree_change.specs.Looks.{gone_all_looks, named_looks, tree_looks}
use Rattle.tree_change.specs.Merging.{IsSortedOf, roots_left}
use Rattle.tree_change.specs.Told.{side_with}
use Rattle.tree_change.specs.Unchanged.{changed_in, either_mark}
use Rattle.tree_change.specs.Walks.{Known, Parts, tree_parts}
use Rattle.tree_change.specs.declared.sides.Compared.{Compared}
use Rattle.tree_laws.specs.MergedLaw.{root_before}

-- Of the pairs of a table, those are marked that move from the one list of chunks to the other, and all above them; the children that have one of
-- these marks, or one of others, are listed; there are so many of these marks, at most one for each pair that moves and has none above it, and
-- eight for each other one that moves; and so many with the others, at most one more for each pair that has another mark alone.
pub record AreMoves (pairs : Pairs) (marked : Marks) (old new : List Chunk) (nodesize end : ℕ) (moving : Marks) (under : Under) (moves all : ℕ) : Type 0 where
  pub moved : AreApart new → 0 < nodesize
      → AreMarkedFrom pairs (at_address (held_and_moved old new nodesize end)) (at_address (is_moved old new nodesize end)) no_mark moving
  pub listed : AreListedBy pairs (either_mark moving marked) under
  pub few : AreLow pairs → (lives : List Live) → HaveEach pairs (is_moved old new nodesize end) lives → moves ≤ marks_for pairs lives
  pub more : (lives : List Live) → AreAmong (left_of moving marked) lives → all ≤ moves + length lives

-- the same, where those that move are of one tree alone
pub record AreTreeMoves (tree : ℕ) (pairs : Pairs) (marked : Marks) (old new : List Chunk) (nodesize end : ℕ) (moving : Marks) (under : Under)
    (moves all : ℕ) : Type 0 where
  pub moved : AreApart new → 0 < nodesize
      → AreMarkedFrom pairs (in_tree tree (held_and_moved old new nodesize end)) (in_tree tree (is_moved old new nodesize end)) no_mark moving
  pub listed : AreListedBy pairs (either_mark moving marked) under
  pub few : AreLow pairs → (lives : List Live) → HaveEach (of_tree tree pairs) (is_moved old new nodesize end) lives → moves ≤ marks_for pairs lives
  pub more : (lives : List Live) → AreAmong (left_of moving marked) lives → all ≤ moves + length lives

-- where each pair has a place and no two chunks of a list overlap, at most so many looks were counted: two for each mark on what moves, three for
-- each mark with the others, two for each old chunk, one for each new one, and those for trees
abbrev pub MovesLookAtMost : Pairs → List Chunk → List Chunk → ℕ → ℕ → ℕ → ℕ → ℕ → ℕ → ℕ → Type 0
MovesLookAtMost pairs old new nodesize end moves all before after trees =
    ArePlaced pairs old nodesize end → AreApart old → AreApart new → 0 < nodesize
    → after ≤ before + 2 * moves + 3 * all + 2 * length old + length new + trees

-- Where any two chunks of a list lie apart or are the same, and each has bytes at addresses of 64 bits, no two of others overlap, and all addresses
-- stand at the same places by both.
abbrev pub AreDistinctOf : List Chunk → List Chunk → Type 0
AreDistinctOf whole some =
    AllByRecursion (λ c. AllByRecursion (LieApartOrSame c) whole) whole
    → AllByRecursion (λ (c : Chunk). (0 < c.length) × (c.start + c.length < 2 ^ 64)) whole
    → AreApart some × ((address n end : ℕ) → place some address n end ≡ place whole address n end)

-- there the same chunk of both holds each range
abbrev pub HaveHomesOf : List Chunk → List Chunk → Type 0
HaveHomesOf whole some =
    AllByRecursion (λ c. AllByRecursion (LieApartOrSame c) whole) whole
    → AllByRecursion (λ (c : Chunk). (0 < c.length) × (c.start + c.length < 2 ^ 64)) whole
    → (address n : ℕ) → home some address n ≡ home whole address n

-- The looks for the chunk tree, by what is known of the old one. Its pairs move from the chunks of the old system array to those of the new one, of
-- each array without those that repeat.
pub record FewForMap {L : Type 0} (both : Compared L) (array : List Chunk) (image : List ℕ) (before after : ℕ) : Type 0 where
  pub old_array : List Chunk
  pub array_is : array_chunks (array_place both.was.sup.now) both.was.sup.now.array both.was.sup.now.array_size ≡ Ok old_array
  pub olds : List Chunk
  pub olds_are : AreDistinctOf old_array olds
  pub homes : HaveHomesOf old_array olds
  pub few_olds : length olds ≤ length old_array
  pub some : List Chunk
  pub few_some : length some ≤ length array
  pub apart : AreApart some
  pub same_place : (address n end : ℕ) → place some address n end ≡ place array address n end
  pub moving : Marks
  pub moved : ℕ
  pub marks : ℕ
  pub known : Known
  pub by_kept : known.pairs ≡ pairs_of both.kept.now
  pub marked_is : known.marked ≡ marked_by both.touched.now
  pub moved_is : known.moved ≡ is_moved both.was.map.now array both.was.sup.now.nodesize both.was.end
  pub moves : AreTreeMoves 3 (pairs_of both.kept.now) (marked_by both.marks.now) olds some both.was.sup.now.nodesize both.was.end moving known.under
      moved marks
  pub looks : MovesLookAtMost (of_tree 3 (pairs_of both.kept.now)) olds some both.was.sup.now.nodesize both.was.end moved marks before after
      (tree_looks known (side_with both.was image) (side_to both image array) (Some (chunk_tree_root both.was.sup.now)) (chunk_tree_root both.fresh.now))

-- the same for all other trees, where pairs move from the old chunks to the new ones
pub record FewForRest {L : Type 0} (both : Compared L) (chunks : List Chunk) (image : List ℕ) (before after : ℕ) : Type 0 where
  pub moving : Marks
  pub moved : ℕ
  pub marks : ℕ
  pub known : Known
  pub by_kept : known.pairs ≡ pairs_of both.kept.now
  pub marked_is : known.marked ≡ marked_by both.touched.now
  pub moved_is : known.moved ≡ is_moved both.was.map.now chunks both.was.sup.now.nodesize both.was.end
  pub moves : AreMoves (pairs_of both.kept.now) (marked_by both.marks.now) both.was.map.now chunks both.was.sup.now.nodesize both.was.end moving known.under
      moved marks
  pub parts : Parts
  pub roots : List RootAt
  pub tree : tree_parts (pairs_of both.table.now) known (side_with both.was image) (side_to both image chunks) (Some (root_tree_root both.was.sup.now))
      (root_tree_root both.fresh.now) ≡ Ok parts
  pub merged : IsSortedOf root_before (roots_left both.roots.now parts.old_items parts.new_items) roots
  pub looks : MovesLookAtMost (pairs_of both.kept.now) both.was.map.now chunks both.was.sup.now.nodesize both.was.end moved marks before after
      (tree_looks known (side_with both.was image) (side_to both image chunks) (Some (root_tree_root both.was.sup.now)) (root_tree_root both.fresh.now)
      + named_looks both.is_same known (side_with both.was image) (side_to both image chunks) both.roots.now roots
      + gone_all_looks known (side_with both.was image) roots both.roots.now)

-- where the new image's walks have no finding, so many looks are made for the pairs that are not shared though they did not change
abbrev pub FewToRise : {L : Type 0} → (both : Compared L) → (image : List ℕ) → ℕ → ℕ → Type 0
FewToRise both image before after = (is : IsCompared both image) (new : Walked) → walked (judged_by both image) ≡ Ok new
    → after + length (changed_in is.based.old new (written_in both.cache.now) (length image) is.based.old)
    ≤ before + length (unshared_in is.based.old new (written_in both.cache.now) (length image) is.based.old)

-- the looks for all, one behind the other
pub record FewToCompare {L : Type 0} (both : Compared L) (image : List ℕ) (before after : ℕ) : Type 0 where
  pub array : List Chunk
  pub chunks : List Chunk
  pub middle : ℕ
  pub later : ℕ
  pub array_is : HasNewArray both array
  pub chunks_are : IsCompared both image → chunk_map_in both.fresh.now array (judged_by both image) ≡ Ok chunks
  pub for_map : FewForMap both array image before middle
  pub for_rest : FewForRest both chunks image middle later
  pub to_rise : FewToRise both image later after

-- where a disk tells its bytes, the looks are so few for the chunk tree, for all other trees, and for both
abbrev pub LooksForMap : {L : Type 0} → Option (List ℕ) → ℕ → ℕ → Compared L → List Chunk → Type 0
LooksForMap told before after both array = IfSome told (λ image. FewForMap both array image before after)

abbrev pub LooksForRest : {L : Type 0} → Option (List ℕ) → ℕ → ℕ → Compared L → List Chunk → Type 0
LooksForRest told before after both chunks = IfSome told (λ image. FewForRest both chunks image before after)

abbrev pub LooksToCompare : {L : Type 0} → Option (List ℕ) → ℕ → ℕ → Compared L → Type 0
LooksToCompare told before after both = IfSome told (λ image. FewToCompare both image before after)

-- The looks to find the pairs that pending writes touch, and then those to compare. No more pairs are marked than there are live pairs among which
-- each marked one is. Where each pair has a place, and neither two chunks nor two
-- copies overlap, the first are at most two for each mark, one for each piece of the writes and two for each chunk.
pub record FewFromOld {L : Type 0} (both : Compared L) (image : List ℕ) (before after : ℕ) : Type 0 where
  pub fits : FitsCompared both both.was.end
  pub alike : both.is_same ≡ are_read_alike both.was.sup.now both.fresh.now
  pub narrow : AreNarrow (pairs_of both.table.now)
  pub few_marks : (lives : List Live) → AreAmong (marked_by both.marks.now) lives → count_of both.marks.now ≤ length lives
  pub middle : ℕ
  pub touched : (pieces : List Piece) → ArePiecesOf both.cache.now pieces
      → ArePlaced (pairs_of both.kept.now) both.was.map.now both.was.sup.now.nodesize both.was.end → AreApart both.was.map.now
      → 0 < both.was.sup.now.nodesize → NoneMeet (copies_of both.was.map.now)
      → middle ≤ before + 2 * count_of both.marks.now + length pieces + 2 * length both.was.map.now
  pub looks : FewToCompare both image middle after

-- where a disk tells its bytes, the looks are so few from an image as it was, which is read so and of which this is known
abbrev pub LooksFromOld : {L : Type 0} → Option (List ℕ) → ℕ → ℕ → BlockSource → FinMap nat_cmp ℕ → Super → List RootAt → LiveIndex L → Type 0
LooksFromOld {L} told before after was pending fresh roots table = IfSome told (λ image. (both : Compared L) × (both.was ≡ was) × (both.cache.now ≡ pending)
    × (both.fresh.now ≡ fresh) × (both.roots.now ≡ roots) × (both.table.now ≡ table) × FewFromOld both image before after)

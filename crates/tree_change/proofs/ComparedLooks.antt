-- The looks for all that changes from one image to another.
use Rattle.std.proofs.Common.{◌≡◌, ℕ, ◌+◌, ◌*◌, ◌<◌, ◌≤◌, true, List, length, Bor, Ok, Err, arith, refl, subst}
use Rattle.std.specs.Prelude.{Option, Some, None, IfSome, OnOk, Result}
use Rattle.std.specs.Ordering.{nat_cmp}
use Rattle.std.specs.FinMap.{FinMap}
use Rattle.verdict.specs.Chunks.{place}
use Rattle.verdict.specs.declared.place.Chunk.{Chunk}
use Rattle.recon_disk.specs.declared.disk.Disk.{Ghosts}
use Rattle.write_cache.specs.Pieces.{ArePiecesOf, Piece}
use Rattle.block_source.specs.declared.read.BlockSource.{BlockSource}
use Rattle.block_source.specs.declared.halt.Halt.{Halt}
use Rattle.live_index.specs.Pairs.{AreNarrow, Pairs}
use Rattle.live_index.specs.Table.{pairs_of}
use Rattle.live_index.specs.declared.kept.LiveIndex.{LiveIndex}
use Rattle.live_index.specs.declared.live.Live.{Live}
use Rattle.super_reader.specs.declared.Super.{Super}
use Rattle.super_reader.specs.Superblock.{array_place}
use Rattle.volume_items.specs.declared.root_at.RootAt.{RootAt}
use Rattle.volume_items.specs.SystemArray.{array_chunks}
use Rattle.touched_blocks.specs.Looks.{ArePlaced, NoneMeet, copies_of}
use Rattle.touched_blocks.specs.Marks.{AreAmong, count_of, marked_by}
use Rattle.touched_blocks.specs.Moves.{AreApart, is_moved, move_passes}
use Rattle.touched_blocks.specs.OneTree.{of_tree}
use Rattle.touched_blocks.specs.declared.marks.Marks.{Marks}
use Rattle.touched_blocks.specs.declared.moved.Move.{Move}
use Rattle.tree_laws.specs.Shared.{are_read_alike}
use Rattle.shared_trees.specs.Under.{under_of}
use Rattle.shared_trees.specs.declared.starts.Starts.{Starts}
use Rattle.tree_change.specs.Firsts.{first_copies}
use Rattle.tree_change.specs.AllLooks.{AreDistinctOf, AreMoves, AreTreeMoves, FewToRise, HaveHomesOf, LooksForMap, LooksForRest, LooksFromOld, LooksToCompare, MovesLookAtMost}
use Rattle.records.specs.Contents.{chunk_map_in}
use Rattle.tree_change.specs.Compared.{FitsCompared, HasNewArray, IsCompared, MakesMap, TellsMap, judged_by}
use Rattle.tree_change.specs.Looks.{LooksAtMost, OthersLookAtMost, chunk_looks_in, other_looks_in}
use Rattle.tree_change.specs.Making.{IsAdded}
use Rattle.tree_change.specs.Told.{known_by}
use Rattle.tree_change.specs.Walks.{Known, Parts}
use Rattle.tree_change.specs.declared.sides.Compared.{Compared}
use Rattle.tree_change.specs.declared.trees.TreeParts.{TreeParts}
use Rattle.tree_change.proofs.ByMap.{IsMove, sides_by}

-- what moves by what is compared
moves_same : (move : Move) (old new : List Chunk) (nodesize end : ℕ) → move.old.now ≡ old → move.new.now ≡ new → move.nodesize ≡ nodesize
    → move.end ≡ end → move_passes move ≡ is_moved old new nodesize end
unfolding move_passes
moves_same move old new nodesize end a b c d = λ i. is_moved (a i) (b i) (c i) (d i)

-- the looks to mark what moves, to list it with what is touched, and for trees
moves_sum : (first at next last moves all old new trees : ℕ) → at ≤ first + 2 * moves + 2 * old + new → next ≤ at + 3 * all → last ≤ next + trees
    → last ≤ first + 2 * moves + 3 * all + 2 * old + new + trees
moves_sum first at next last moves all old new trees a b c = omega (arith, a, b, c)

moves_few : (pairs : Pairs) (old new : List Chunk) (nodesize end moves all first at next last trees : ℕ)
    → (ArePlaced pairs old nodesize end → AreApart old → AreApart new → 0 < nodesize → at ≤ first + 2 * moves + 2 * length old + length new)
    → next ≤ at + 3 * all → last ≤ next + trees → MovesLookAtMost pairs old new nodesize end moves all first last trees
moves_few pairs old new nodesize end moves all first at next last trees moved listed few = λ placed apart new_apart some.
    moves_sum first at next last moves all (length old) (length new) trees (moved placed apart new_apart some) listed few

module _ {L : Type 0} (both : Compared L) (new : Bor (List Chunk)) (moves : Bor Move) (starts : Bor Starts)
    (same : both.is_same ≡ true → both.kept.now ≡ both.table.now) (once : both.firsts.now ≡ first_copies both.was.map.now) where
  -- the looks for all trees but the chunk tree
  pub rest_few : (A : Type 0) (told : Option (List ℕ)) (result : Result A Halt) (moving joined : Marks) (first at next last : ℕ) → IsMove both new moves starts same once
      → AreMoves (pairs_of both.kept.now) (marked_by both.marks.now) both.was.map.now new.now both.was.sup.now.nodesize both.was.end (marked_by moving)
      (under_of starts.now) (count_of moving) (count_of joined)
      → (ArePlaced (pairs_of both.kept.now) both.was.map.now both.was.sup.now.nodesize both.was.end → AreApart both.was.map.now → AreApart new.now
      → 0 < both.was.sup.now.nodesize → at ≤ first + 2 * count_of moving + 2 * length both.was.map.now + length new.now)
      → next ≤ at + 3 * count_of joined
      → OnOk result (OthersLookAtMost told next last (sides_by both new moves starts same once) both.roots.now)
      → OnOk result (LooksForRest told first last both new.now)
  rest_few A told (Err halt) moving joined first at next last is are moved listed others = tt
  rest_few A told (Ok value) moving joined first at next last is are moved listed others = by told others
    where
      by : (t : Option (List ℕ)) → OthersLookAtMost t next last (sides_by both new moves starts same once) both.roots.now
          → LooksForRest t first last both new.now
      by None others = tt
      by (Some image) others = record {
        moving = marked_by moving;
        moved = count_of moving;
        marks = count_of joined;
        known = known_by (sides_by both new moves starts same once).known;
        by_kept = refl;
        marked_is = refl;
        moved_is = moves_same moves.now both.was.map.now new.now both.was.sup.now.nodesize both.was.end is.before is.after is.size is.until;
        moves = are;
        parts = others.0;
        roots = others.1;
        tree = others.2.tree;
        merged = others.2.merged;
        looks = moves_few (pairs_of both.kept.now) both.was.map.now new.now both.was.sup.now.nodesize both.was.end (count_of moving) (count_of joined)
            first at next last
            (other_looks_in (sides_by both new moves starts same once) both.roots.now others.1 image) moved listed others.3;
      }

  -- the looks for the chunk tree
  pub map_few : (A : Type 0) (told : Option (List ℕ)) (result : Result A Halt) (old_array olds some : List Chunk) (moving joined : Marks)
      (first at next last : ℕ)
      → IsMove both new moves starts same once
      → array_chunks (array_place both.was.sup.now) both.was.sup.now.array both.was.sup.now.array_size ≡ Ok old_array
      → AreDistinctOf old_array olds → HaveHomesOf old_array olds → length olds ≤ length old_array → length some ≤ length new.now
      → AreApart some → ((address n end : ℕ) → place some address n end ≡ place new.now address n end)
      → AreTreeMoves 3 (pairs_of both.kept.now) (marked_by both.marks.now) olds some both.was.sup.now.nodesize both.was.end (marked_by moving)
      (under_of starts.now) (count_of moving) (count_of joined)
      → (ArePlaced (of_tree 3 (pairs_of both.kept.now)) olds both.was.sup.now.nodesize both.was.end → AreApart olds → AreApart some
      → 0 < both.was.sup.now.nodesize → at ≤ first + 2 * count_of moving + 2 * length olds + length some)
      → next ≤ at + 3 * count_of joined
      → OnOk result (LooksAtMost told next last (chunk_looks_in (sides_by both new moves starts same once)))
      → OnOk result (LooksForMap told first last both new.now)
  map_few A told (Err halt) old_array olds some moving joined first at next last is array_is distinct homes few_olds few_some apart place_is are moved listed tree = tt
  map_few A told (Ok value) old_array olds some moving joined first at next last is array_is distinct homes few_olds few_some apart place_is are moved listed tree = by told tree
    where
      by : (t : Option (List ℕ)) → LooksAtMost t next last (chunk_looks_in (sides_by both new moves starts same once)) → LooksForMap t first last both new.now
      by None tree = tt
      by (Some image) tree = record {
        old_array = old_array;
        array_is = array_is;
        olds = olds;
        olds_are = distinct;
        homes = homes;
        few_olds = few_olds;
        some = some;
        few_some = few_some;
        apart = apart;
        same_place = place_is;
        moving = marked_by moving;
        moved = count_of moving;
        marks = count_of joined;
        known = known_by (sides_by both new moves starts same once).known;
        by_kept = refl;
        marked_is = refl;
        moved_is = moves_same moves.now both.was.map.now new.now both.was.sup.now.nodesize both.was.end is.before is.after is.size is.until;
        moves = are;
        looks = moves_few (of_tree 3 (pairs_of both.kept.now)) olds some both.was.sup.now.nodesize both.was.end (count_of moving) (count_of joined)
            first at next last
            (chunk_looks_in (sides_by both new moves starts same once) image) moved listed tree;
      }

-- the looks for all
pub all_few : {D L : Type 0} (disk : Ghosts D) (start second : D) (some all : TreeParts) (both : Compared L) (array chunks : List Chunk)
    (first at next last : ℕ) → HasNewArray both array → disk.bytes second ≡ disk.bytes start
    → TellsMap disk start second some all both array (Ok chunks)
    → LooksForMap (disk.bytes start) first at both array → LooksForRest (disk.bytes second) at next both chunks
    → IfSome (disk.bytes start) (λ image. FewToRise both image next last)
    → LooksToCompare (disk.bytes start) first last both
all_few {D} {L} disk start second some all both array chunks first at next last array_is same tells for_map for_rest to_rise =
    by (disk.bytes start) chunks_of for_map (subst (λ told. LooksForRest told at next both chunks) same for_rest) to_rise
  where
    Are : List ℕ → Type 0
    Are image = IsCompared both image → chunk_map_in both.fresh.now array (judged_by both image) ≡ Ok chunks

    chunks_at : (told : Option (List ℕ)) → IfSome told (λ image. (is : IsCompared both image) → HasNewArray both array
        → (known : Known) × (parts : Parts) × MakesMap both image is.based.old array chunks known parts
        × IsAdded some all parts (disk.reads start) (disk.reads second)) → IfSome told Are
    chunks_at None tells = tt
    chunks_at (Some image) tells = λ is. (tells is array_is).2.chunks_are

    chunks_of : IfSome (disk.bytes start) Are
    chunks_of = chunks_at (disk.bytes start) tells

    by : (told : Option (List ℕ)) → IfSome told Are → LooksForMap told first at both array → LooksForRest told at next both chunks
        → IfSome told (λ image. FewToRise both image next last) → LooksToCompare told first last both
    by None are a b c = tt
    by (Some image) are a b c = record {
      array = array;
      chunks = chunks;
      middle = at;
      later = next;
      array_is = array_is;
      chunks_are = are;
      for_map = a;
      for_rest = b;
      to_rise = c;
    }

-- the looks from an image as it was
pub old_few : (A : Type 0) {L : Type 0} (both : Compared L) (told : Option (List ℕ)) (result : Result A Halt) (was : BlockSource)
    (pending : FinMap nat_cmp ℕ) (fresh : Super) (roots : List RootAt) (table : LiveIndex L) (first at last : ℕ) → both.was ≡ was
    → both.cache.now ≡ pending → both.fresh.now ≡ fresh → both.roots.now ≡ roots → both.table.now ≡ table → FitsCompared both both.was.end
    → both.is_same ≡ are_read_alike both.was.sup.now both.fresh.now → AreNarrow (pairs_of both.table.now)
    → ((lives : List Live) → AreAmong (marked_by both.marks.now) lives → count_of both.marks.now ≤ length lives)
    → ((pieces : List Piece) → ArePiecesOf both.cache.now pieces
    → ArePlaced (pairs_of both.kept.now) both.was.map.now both.was.sup.now.nodesize both.was.end → AreApart both.was.map.now
    → 0 < both.was.sup.now.nodesize → NoneMeet (copies_of both.was.map.now)
    → at ≤ first + 2 * count_of both.marks.now + length pieces + 2 * length both.was.map.now)
    → OnOk result (LooksToCompare told at last both) → OnOk result (LooksFromOld told first last was pending fresh roots table)
old_few A both told (Err halt) was pending fresh roots table first at last a b c d e fits alike narrow few_marks touched looks = tt
old_few A both told (Ok value) was pending fresh roots table first at last a b c d e fits alike narrow few_marks touched looks = by told looks
  where
    by : (t : Option (List ℕ)) → LooksToCompare t at last both → LooksFromOld t first last was pending fresh roots table
    by None looks = tt
    by (Some image) looks = (
      both,
      a,
      b,
      c,
      d,
      e,
      record { fits = fits; alike = alike; narrow = narrow; few_marks = few_marks; middle = at; touched = touched; looks = looks },
    )

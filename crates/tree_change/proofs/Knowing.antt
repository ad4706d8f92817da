-- What the calls promise that mark and list by the table of the old pairs is what is known of the old trees.
use Rattle.std.proofs.Common.{◌≡◌, ℕ, ◌⊎◌, inl, inr, true, not, ◌==◌, ◌&&◌, List, length, refl, ap, sym, ◌∙◌}
use Rattle.std.specs.Prelude.{Some, is_some}
use Rattle.std.specs.Ordering.{nat_cmp}
use Rattle.std.specs.FinMap.{FinMap}
use Rattle.verdict.proofs.Lists.{all_map}
use Rattle.verdict.specs.Chunks.{home, place}
use Rattle.verdict.specs.declared.place.Chunk.{Chunk}
use Rattle.live_index.specs.Pairs.{AreNarrow, Pairs}
use Rattle.records.specs.Contents.{chunk_tree_root}
use Rattle.touched_blocks.specs.Marking.{AreMarkedFrom, ClimbsTo}
use Rattle.touched_blocks.specs.Marks.{Marked, no_mark}
use Rattle.touched_blocks.specs.Moves.{held_and_moved, is_moved}
use Rattle.touched_blocks.specs.OneTree.{in_tree}
use Rattle.touched_blocks.specs.Spots.{at_address}
use Rattle.touched_blocks.specs.Touched.{same_place, written_in}
use Rattle.tree_laws.specs.ArrayLaw.{HasArray}
use Rattle.tree_laws.specs.Keeping.{AreMarked, Marks, Stands, Under}
use Rattle.tree_laws.specs.Listed.{AreListedBy}
use Rattle.tree_laws.specs.LivePairs.{Walked, live_in, table_of}
use Rattle.tree_laws.specs.Shared.{are_read_alike}
use Rattle.tree_laws.specs.SharedLaw.{HasTrees, MarksTouched, touches_old}
use Rattle.tree_laws.specs.TableLaw.{Tree, trees_in}
use Rattle.tree_laws.proofs.ArrayMoves.{array_moves}
use Rattle.tree_laws.proofs.Forest.{stands_as}
use Rattle.tree_laws.proofs.MarkedTrees.{marks_image, moves_image}
use Rattle.tree_laws.proofs.Picking.{each_both}
use Rattle.tree_change.specs.AllTrees.{KnowsTrees}
use Rattle.tree_change.specs.OneTree.{KnowsTree, old_tree}
use Rattle.tree_change.specs.Unchanged.{ChangesListed, either_mark}
use Rattle.tree_change.specs.Walks.{Known, Side}
use Rattle.tree_change.proofs.Changing.{changes_listed, touched_known}
use Rattle.tree_change.proofs.Olds.{old_stands}
use Rattle.volume_items.specs.declared.root_at.RootAt.{RootAt}

-- pairs are marked from some as from the same
pub marked_as : (pairs : Pairs) (must may must_too may_too old new : Marked) → ((tree address : ℕ) → must_too tree address ≡ must tree address)
    → ((tree address : ℕ) → may_too tree address ≡ may tree address) → AreMarkedFrom pairs must may old new
    → AreMarkedFrom pairs must_too may_too old new
marked_as pairs must may must_too may_too old new same_must same_may from = record {
  kept = from.kept;
  closed = from.closed;
  found = λ tree address t a is some. from.found tree address t a (sym (same_must tree address) ∙ is) some;
  only = λ tree address is. by tree address (from.only tree address is);
}
  where
    by : (tree address : ℕ)
        → (old tree address ≡ true)
        ⊎ ((start : ℕ) × (may tree start ≡ true) × (is_some (pairs tree start) ≡ true) × ClimbsTo pairs tree address start)
        → (old tree address ≡ true)
        ⊎ ((start : ℕ) × (may_too tree start ≡ true) × (is_some (pairs tree start) ≡ true) × ClimbsTo pairs tree address start)
    by tree address (inl was) = inl was
    by tree address (inr h) = inr (h.0, same_may tree h.0 ∙ h.1, h.2, h.3)

-- by chunks that give the same places a block moved alike
moved_as : (old some other : List Chunk) (nodesize end address : ℕ) → place some address nodesize end ≡ place other address nodesize end
    → is_moved old other nodesize end address ≡ is_moved old some nodesize end address
moved_as old some other nodesize end address same = ap (λ p. not (same_place (place old address nodesize end) p)) (sym same)

held_as : (old some other : List Chunk) (nodesize end address : ℕ) → place some address nodesize end ≡ place other address nodesize end
    → held_and_moved old other nodesize end address ≡ held_and_moved old some nodesize end address
held_as old some other nodesize end address same =
    ap (λ b. is_some (home old address nodesize) && b) (moved_as old some other nodesize end address same)

-- what is known, by the table of the old pairs, by marks and by the new chunks
abbrev pub known_of : List ℕ → Walked → Pairs → Marks → Under → Side → Known
known_of image old pairs marked under is = record {
  pairs = pairs;
  marked = marked;
  moved = is_moved old.chunks is.chunks old.sup.nodesize (length image);
  under = under;
}

-- those pairs are marked that writes touch, and all above them
abbrev pub AreTouched : List ℕ → FinMap nat_cmp ℕ → Walked → Pairs → Marks → Type 0
AreTouched image pending old pairs marked =
    AreMarkedFrom pairs (at_address (touches_old old (written_in pending) (length image)))
    (at_address (touches_old old (written_in pending) (length image))) no_mark marked

-- and those that moved from some chunks to others
abbrev pub AreMovedBy : List ℕ → Walked → List Chunk → List Chunk → Pairs → Marks → Type 0
AreMovedBy image old before after pairs moving =
    AreMarkedFrom pairs (at_address (held_and_moved before after old.sup.nodesize (length image)))
    (at_address (is_moved before after old.sup.nodesize (length image))) no_mark moving

-- the same of the chunk tree alone, which is tree 3
abbrev pub IsMovedBy : List ℕ → Walked → List Chunk → List Chunk → Pairs → Marks → Type 0
IsMovedBy image old before after pairs moving =
    AreMarkedFrom pairs (in_tree 3 (held_and_moved before after old.sup.nodesize (length image)))
    (in_tree 3 (is_moved before after old.sup.nodesize (length image))) no_mark moving

-- of the marked pairs those are told apart that writes touch
abbrev pub AreOwn : List ℕ → FinMap nat_cmp ℕ → Walked → Marks → Marks → Type 0
AreOwn image pending old marked own =
    (tree address : ℕ) → own tree address ≡ (marked tree address && touches_old old (written_in pending) (length image) address)

-- all old trees are known
pub knows_trees : (image : List ℕ) (pending : FinMap nat_cmp ℕ) (old : Walked) (trees : List Tree) (pairs : Pairs) (marked own moving : Marks)
    (under : Under) (is : Side) → AreNarrow pairs → HasTrees image old trees
    → ((tree address : ℕ) → pairs tree address ≡ table_of (live_in old.seen) tree address) → are_read_alike old.sup is.sup ≡ true
    → AreTouched image pending old pairs marked → AreOwn image pending old marked own
    → AreMovedBy image old old.chunks is.chunks pairs moving → AreListedBy pairs (either_mark moving marked) under
    → KnowsTrees image pending old trees is (known_of image old pairs own under is)
knows_trees image pending old trees pairs marked own moving under is narrow has pairs_are alike touched own_are moved listed =
    let table = table_of (live_in old.seen) in
    let end = length image in
    let written = written_in pending in
    let test = at_address (touches_old old written end) in
    let stand = (λ (tree : Tree). Stands table old.sup tree.0 tree.1) in
    let moves = (λ (tree : Tree). AreMarked moving (is_moved old.chunks is.chunks old.sup.nodesize end) old.sup tree.0 tree.1) in
    record {
      alike = alike;
      pairs_are = pairs_are;
      moved_is = refl;
      marked_is = touched_known pairs (touches_old old written end) marked own narrow touched own_are;
      changing = either_mark moving marked;
      changes = all_map (λ tree. stand tree × (MarksTouched old written end marked tree × moves tree))
          (ChangesListed old is.chunks written end (either_mark moving marked) under) trees
          (λ tree h. changes_listed old is.chunks written end pairs marked moving under tree
          (stands_as old.sup tree table pairs (pairs_are tree.1.tree) h.0) h.1.0 h.1.1 listed)
          (each_both stand (λ tree. MarksTouched old written end marked tree × moves tree) trees (old_stands image old trees has)
          (each_both (MarksTouched old written end marked) moves trees
          (marks_image image old trees pairs test test marked narrow has pairs_are (λ tree address some is. is) touched)
          (moves_image image old trees pairs is.chunks end moving narrow has pairs_are moved)));
    }

-- the old chunk tree is known, by the chunks of the new system array, or by others that give the same places
pub knows_chunk_tree : (image : List ℕ) (pending : FinMap nat_cmp ℕ) (old : Walked) (olds : List RootAt) (old_array some : List Chunk)
    (pairs : Pairs) (marked own moving : Marks) (under : Under) (is : Side) → AreNarrow pairs → HasArray image old old_array
    → HasTrees image old (trees_in old.sup old.chunks old.chunks olds image)
    → ((tree address : ℕ) → pairs tree address ≡ table_of (live_in old.seen) tree address) → are_read_alike old.sup is.sup ≡ true
    → AreTouched image pending old pairs marked → AreOwn image pending old marked own
    → ((address : ℕ) → place some address old.sup.nodesize (length image) ≡ place is.chunks address old.sup.nodesize (length image))
    → IsMovedBy image old old_array some pairs moving → AreListedBy pairs (either_mark moving marked) under
    → KnowsTree image pending old is (known_of image old pairs own under is) (Some (chunk_tree_root old.sup))
knows_chunk_tree image pending old olds old_array some pairs marked own moving under is narrow has_array has pairs_are alike touched own_are same moved
    listed =
    let trees = trees_in old.sup old.chunks old.chunks olds image in
    let tree = old_tree image old (chunk_tree_root old.sup) in
    let n = old.sup.nodesize in
    let end = length image in
    let test = at_address (touches_old old (written_in pending) end) in
    let all = marks_image image old trees pairs test test marked narrow has pairs_are (λ id address some is. is) touched in
    let by_array : IsMovedBy image old old_array is.chunks pairs moving =
    marked_as pairs (in_tree 3 (held_and_moved old_array some n end)) (in_tree 3 (is_moved old_array some n end))
    (in_tree 3 (held_and_moved old_array is.chunks n end)) (in_tree 3 (is_moved old_array is.chunks n end)) no_mark moving
    (λ id address. ap (λ b. id == 3 && b) (held_as old_array some is.chunks n end address (same address)))
    (λ id address. ap (λ b. id == 3 && b) (moved_as old_array some is.chunks n end address (same address))) moved in
    record {
      alike = alike;
      pairs_are = pairs_are;
      moved_is = refl;
      marked_is = touched_known pairs (touches_old old (written_in pending) end) marked own narrow touched own_are;
      changing = either_mark moving marked;
      changes = changes_listed old is.chunks (written_in pending) end pairs marked moving under tree
          (stands_as old.sup tree (table_of (live_in old.seen)) pairs (pairs_are 3) (old_stands image old trees has).0) all.0
          (array_moves image old old_array is.chunks pairs moving narrow has_array pairs_are by_array) listed;
    }

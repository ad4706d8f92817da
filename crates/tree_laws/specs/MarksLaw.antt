-- The law of the marks on the trees of an image.
use Rattle.std.specs.Prelude.{ℕ, ◌≡◌, true, List, is_some}
use Rattle.std.specs.List.{AllByRecursion}
use Rattle.verdict.specs.declared.place.Chunk.{Chunk}
use Rattle.live_index.specs.Pairs.{AreNarrow, Pairs}
use Rattle.touched_blocks.specs.Marking.{AreMarkedFrom}
use Rattle.touched_blocks.specs.Marks.{no_mark}
use Rattle.touched_blocks.specs.Moves.{held_and_moved, is_moved}
use Rattle.touched_blocks.specs.Spots.{at_address}
use Rattle.tree_laws.specs.Keeping.{AreMarked, Marks}
use Rattle.tree_laws.specs.LivePairs.{Walked, live_in, table_of}
use Rattle.tree_laws.specs.SharedLaw.{HasTrees}
use Rattle.tree_laws.specs.TableLaw.{Tree}

-- Where a table has the live pairs of an image, with ids and addresses of 64 bits, just those blocks of each of its trees are marked with all above them which may be, if
-- each live pair that may be must be.
abbrev pub MarksLaw : Type 0
MarksLaw = (image : List ℕ) (whole : Walked) (trees : List Tree) (pairs : Pairs) (must may marked : Marks)
    → AreNarrow pairs → HasTrees image whole trees
    → ((tree address : ℕ) → pairs tree address ≡ table_of (live_in whole.seen) tree address)
    → ((tree address : ℕ) → is_some (pairs tree address) ≡ true → may tree address ≡ true → must tree address ≡ true)
    → AreMarkedFrom pairs must may no_mark marked
    → AllByRecursion (λ tree. AreMarked marked (may tree.1.tree) whole.sup tree.0 tree.1) trees

-- The same of the blocks that stand elsewhere by a new list of chunks: only those that an old chunk holds must be marked, and each block
-- of a tree is held by one.
abbrev pub MovesLaw : Type 0
MovesLaw = (image : List ℕ) (whole : Walked) (trees : List Tree) (pairs : Pairs) (new : List Chunk) (end : ℕ) (moving : Marks)
    → AreNarrow pairs → HasTrees image whole trees
    → ((tree address : ℕ) → pairs tree address ≡ table_of (live_in whole.seen) tree address)
    → AreMarkedFrom pairs (at_address (held_and_moved whole.chunks new whole.sup.nodesize end))
    (at_address (is_moved whole.chunks new whole.sup.nodesize end)) no_mark moving
    → AllByRecursion (λ tree. AreMarked moving (is_moved whole.chunks new whole.sup.nodesize end) whole.sup tree.0 tree.1) trees

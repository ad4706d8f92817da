-- The laws of the chunks of system arrays: the marks on the old chunk tree, where two arrays are compared; and how an array's chunks lie.
use Rattle.std.specs.Prelude.{ℕ, ◌≡◌, ◌⊎◌, true, List, length}
use Rattle.std.specs.List.{AllByRecursion}
use Rattle.verdict.specs.declared.place.Chunk.{Chunk}
use Rattle.live_index.specs.Pairs.{AreNarrow, Pairs}
use Rattle.node_reader.specs.Stored.{stored_in}
use Rattle.records.specs.Contents.{chunk_tree_root}
use Rattle.touched_blocks.specs.Marking.{AreMarkedFrom}
use Rattle.touched_blocks.specs.Marks.{no_mark}
use Rattle.touched_blocks.specs.Moves.{LieApart, held_and_moved, is_moved, same_chunk}
use Rattle.touched_blocks.specs.OneTree.{in_tree}
use Rattle.tree_laws.specs.ArrayLaw.{HasArray, moves_by}
use Rattle.tree_laws.specs.Keeping.{AreMarked, Marks}
use Rattle.tree_laws.specs.LivePairs.{Walked, live_in, table_of}

-- Where a table has the live pairs of an image, with ids and addresses of 64 bits, and those of its chunk tree (tree 3) are marked, with all
-- above them, of which the block moved from the image's system array to a new one, just those blocks of the chunk tree are marked which moved
-- by the new array, or which are above one that did.
abbrev pub ArrayMovesLaw : Type 0
ArrayMovesLaw = (image : List ℕ) (old : Walked) (old_array array : List Chunk) (pairs : Pairs) (moving : Marks)
    → AreNarrow pairs → HasArray image old old_array
    → ((tree address : ℕ) → pairs tree address ≡ table_of (live_in old.seen) tree address)
    → AreMarkedFrom pairs (in_tree 3 (held_and_moved old_array array old.sup.nodesize (length image)))
    (in_tree 3 (is_moved old_array array old.sup.nodesize (length image))) no_mark moving
    → AreMarked moving (moves_by old array (length image)) old.sup (stored_in image old.chunks old.sup.nodesize) (chunk_tree_root old.sup)

-- two chunks have no logical address in common, or hold the same addresses at the same places
abbrev pub LieApartOrSame : Chunk → Chunk → Type 0
LieApartOrSame c d = LieApart c d ⊎ (same_chunk c d ≡ true)

-- A system array may have a chunk twice. Where the walks of its image have no finding, any two of its chunks lie apart or are the same.
abbrev pub ArrayApartLaw : Type 0
ArrayApartLaw = (image : List ℕ) (whole : Walked) (array : List Chunk) → HasArray image whole array
    → AllByRecursion (λ c. AllByRecursion (LieApartOrSame c) array) array

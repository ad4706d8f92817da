-- Which blocks of a tree are marked, where those that pass a test are marked with all above them by a table of its live pairs.
use Rattle.std.specs.Prelude.{ℕ, ◌≡◌, true, is_some}
use Rattle.super_reader.specs.declared.Super.{Super}
use Rattle.live_index.specs.Pairs.{AreNarrow, Pairs}
use Rattle.node_reader.specs.Stored.{Stored}
use Rattle.node_reader.specs.declared.expect.Expect.{Expect}
use Rattle.touched_blocks.specs.Marking.{AreMarkedFrom}
use Rattle.touched_blocks.specs.Marks.{no_mark}
use Rattle.tree_laws.specs.Keeping.{AreMarked, Marks, Stands}

-- Where a table stands for a tree, the blocks that are marked with all above them are just those of which, or of a block below which, the
-- address passes the test of those that must be marked. Of the tree's blocks no other may be marked than must be.
abbrev pub MarkingLaw : Type 0
MarkingLaw = (pairs : Pairs) (must may marked : Marks) (sup : Super) (stored : Stored) (root : Expect)
    → Stands pairs sup stored root → AreNarrow pairs
    → ((address : ℕ) → is_some (pairs root.tree address) ≡ true → may root.tree address ≡ true → must root.tree address ≡ true)
    → AreMarkedFrom pairs must may no_mark marked → AreMarked marked (must root.tree) sup stored root

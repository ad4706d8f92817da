-- What it is to mark pairs of a table with all that stand above them in their trees.
use Rattle.std.specs.Prelude.{ℕ, ◌≡◌, ◌+◌, ◌<◌, ◌^◌, ◌⊎◌, Bool, true, nat_lt, List, [], ◌∷◌, Option, Some, None, is_some, if◌then◌else◌}
use Rattle.live_index.specs.declared.live.Live.{Live}
use Rattle.live_index.specs.Pairs.{Pairs}
use Rattle.touched_blocks.specs.Marks.{Marked, in_lives}

-- a pair, where it is on a greater level than another
abbrev pub if_above : Live → Option Live → Option Live
if_above live None = None
if_above live (Some up) = if nat_lt live.level up.level then Some up else None

-- The pair of the node above a pair of a tree. Its address is the parent's. A root names 0, where another block of its tree may stand; but
-- the node above is on a greater level, and no other block of the tree is on a greater level than the root.
abbrev pub parent_of : Pairs → ℕ → Live → Option Live
parent_of pairs tree live = if_above live (pairs tree live.parent)

-- the parents in a table lead from a block of a tree to another
pub data ClimbsTo (pairs : Pairs) (tree to : ℕ) : ℕ → Type 0 where
  Here : ClimbsTo pairs tree to to
  Up : (from : ℕ) (live up : Live) → pairs tree from ≡ Some live → parent_of pairs tree live ≡ Some up → ClimbsTo pairs tree to live.parent → ClimbsTo pairs tree to from

-- each pair of a table is on a level below 8
abbrev pub AreLow : Pairs → Type 0
AreLow pairs = (tree address : ℕ) (live : Live) → pairs tree address ≡ Some live → live.level < 8

-- a list has each pair of a table of which the address passes a test
abbrev pub HaveEach : Pairs → (ℕ → Bool) → List Live → Type 0
HaveEach pairs test lives =
    (tree address : ℕ) → test address ≡ true → is_some (pairs tree address) ≡ true → in_lives lives tree address ≡ true

-- How many marks are enough for a pair of a tree, by what stands above it: one where nothing does, else eight, as many as there are levels.
abbrev pub marks_by : Option Live → ℕ
marks_by None = 1
marks_by (Some up) = 8

-- the same of what a table has for a pair, one where it has nothing
abbrev pub marks_at : Pairs → ℕ → Option Live → ℕ
marks_at pairs tree None = 1
marks_at pairs tree (Some live) = marks_by (parent_of pairs tree live)

-- how many are enough for live pairs: for each one where the table has no pair above that of its tree and address, eight where it has one
abbrev pub marks_for : Pairs → List Live → ℕ
marks_for pairs [] = 0
marks_for pairs (live ∷ lives) = marks_at pairs live.tree (pairs live.tree live.address) + marks_for pairs lives

-- above each pair that is marked the next one is
abbrev pub AreClosed : Pairs → Marked → Type 0
AreClosed pairs marked =
    (tree address : ℕ) (live up : Live) → marked tree address ≡ true → pairs tree address ≡ Some live → parent_of pairs tree live ≡ Some up
    → marked tree live.parent ≡ true

-- The pairs of a table that must be are marked, and those above them, and no other than those from which a pair may be reached. The
-- id of a tree and an address have 64 bits.
pub record AreMarkedFrom (pairs : Pairs) (must may old new : Marked) : Type 0 where
  pub kept : (tree address : ℕ) → old tree address ≡ true → new tree address ≡ true
  pub closed : AreClosed pairs old → AreClosed pairs new
  pub found : (tree address : ℕ) → tree < 2 ^ 64 → address < 2 ^ 64 → must tree address ≡ true → is_some (pairs tree address) ≡ true → new tree address ≡ true
  pub only : (tree address : ℕ) → new tree address ≡ true
      → (old tree address ≡ true) ⊎ ((from : ℕ) × (may tree from ≡ true) × (is_some (pairs tree from) ≡ true) × ClimbsTo pairs tree address from)

-- the pairs of a table that pass a test are marked, those above them, and no other
abbrev pub AreMarked : Pairs → Marked → Marked → Marked → Type 0
AreMarked pairs starts old new = AreMarkedFrom pairs starts starts old new

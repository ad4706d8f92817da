-- The pairs of one tree alone.
use Rattle.std.specs.Prelude.{ℕ, Bool, true, ◌&&◌, ◌==◌, Option, Some, None, if◌then◌else◌}
use Rattle.live_index.specs.Pairs.{Pairs}
use Rattle.touched_blocks.specs.Marks.{Marked}

-- the pairs of a table that are of one tree
abbrev pub of_tree : ℕ → Pairs → Pairs
of_tree tree pairs t a = if t == tree then pairs t a else None

-- the pairs of one tree at an address that passes a test
abbrev pub in_tree : ℕ → (ℕ → Bool) → Marked
in_tree tree test t a = t == tree && test a

-- whether a tree is one of those chosen: the one that is given, or any where none is
abbrev pub is_chosen : Option ℕ → ℕ → Bool
is_chosen None t = true
is_chosen (Some tree) t = t == tree

-- the pairs of a table that are of these trees
abbrev pub chosen : Option ℕ → Pairs → Pairs
chosen only pairs t a = if is_chosen only t then pairs t a else None

-- the pairs of these trees at an address that passes a test
abbrev pub in_chosen : Option ℕ → (ℕ → Bool) → Marked
in_chosen only test t a = is_chosen only t && test a

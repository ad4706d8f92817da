-- The children that are walked below blocks, as a table has them.
use Rattle.std.specs.Prelude.{ℕ, List, [], Option, Some, None}
use Rattle.std.specs.BTreeMap as map
use Rattle.touched_blocks.specs.Marks.{by_pair, pair_place}
use Rattle.shared_trees.specs.declared.starts.Listed.{Listed}
use Rattle.tree_laws.specs.declared.told.Start.{Start}
use Rattle.shared_trees.specs.declared.starts.Starts.{Starts}

-- no children
abbrev pub no_starts : ℕ → ℕ → List Start
no_starts tree address = []

-- the children that stand under a place, none where it has none
abbrev pub starts_or : Option Listed → List Start
starts_or None = []
starts_or (Some listed) = listed.starts.items

-- the children that are walked below the block of a tree at a logical address
unfoldable pub under_of : Starts → ℕ → ℕ → List Start
under_of starts tree address = starts_or (map.get by_pair starts.under (pair_place tree address))

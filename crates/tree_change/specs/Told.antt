-- What walks of trees are told, and what they give, as private functions say it.
use Rattle.std.specs.Prelude.{ℕ, List}
use Rattle.live_index.specs.Table.{pairs_of}
use Rattle.touched_blocks.specs.Marks.{marked_by}
use Rattle.touched_blocks.specs.Moves.{move_passes}
use Rattle.block_source.specs.declared.read.BlockSource.{BlockSource}
use Rattle.tree_laws.specs.Known.{blocks_met}
use Rattle.shared_trees.specs.Under.{under_of}
use Rattle.tree_change.specs.Gathered.{gathers}
use Rattle.tree_change.specs.Walks.{Known, NewWalk, Side}
use Rattle.tree_change.specs.declared.walks.KnownTrees.{KnownTrees}
use Rattle.tree_change.specs.declared.walks.NewTree.{NewTree}

-- what is known, as the definitions have it
abbrev pub known_by : {L : Type 0} → KnownTrees L → Known
known_by known = record {
  pairs = pairs_of known.table.now;
  marked = marked_by known.marks.now;
  moved = move_passes known.moves.now;
  under = under_of known.starts.now;
}

-- an image by a source's superblock and chunks
abbrev pub side_with : BlockSource → List ℕ → Side
side_with source image = record { sup = source.sup.now; chunks = source.map.now; image = image }

-- what a walk gave
abbrev pub new_by : NewTree → NewWalk
new_by tree = record { read = gathers tree.read; met = blocks_met tree.met.items; ended = tree.ended.items }

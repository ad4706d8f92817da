use Rattle.std.proofs.Common.{◌≡◌, ◌*◌, ◌≤◌, take, map}
use Rattle.image_maker.specs.Leaf.{space_of}
use Rattle.image_maker.specs.Maker.{items_of, nodesize_of, header_of}
use Rattle.image_maker.specs.Trees.{extent_entry, block_header}
use Rattle.image_maker.proofs.trees.extent_tree.Given as goal

abbrev pub invariant-loop-row : goal.invariant-loop-row
invariant-loop-row l =
    (nodesize_of l.leaf ≡ 16384) × (header_of l.leaf ≡ block_header l.at)
    × (space_of (items_of l.leaf) ≤ 58 * l.row-index)
    × (items_of l.leaf ≡ map extent_entry (take l.row-index l.rows))

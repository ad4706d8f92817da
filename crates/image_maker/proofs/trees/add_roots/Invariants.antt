use Rattle.std.proofs.Common.{◌≡◌, ◌+◌, ◌*◌, ◌++◌, take, map}
use Rattle.image_maker.specs.Leaf.{space_of}
use Rattle.image_maker.specs.Maker.{items_of, nodesize_of, header_of}
use Rattle.image_maker.specs.Trees.{root_entry}
use Rattle.image_maker.proofs.trees.add_roots.Given as goal

abbrev pub invariant-loop-block : goal.invariant-loop-block
invariant-loop-block l =
    (nodesize_of l.leaf ≡ nodesize_of l.fn.leaf) × (header_of l.leaf ≡ header_of l.fn.leaf)
    × (space_of (items_of l.leaf) ≡ space_of (items_of l.fn.leaf) + 464 * l.block-index)
    × (items_of l.leaf ≡ items_of l.fn.leaf ++ map root_entry (take l.block-index l.trees))

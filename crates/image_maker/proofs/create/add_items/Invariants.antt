use Rattle.std.proofs.Common.{◌≡◌, ◌+◌, ◌≤◌, ◌++◌, take, drop}
use Rattle.image_maker.specs.Leaf.{space_of}
use Rattle.image_maker.specs.Maker.{items_of, nodesize_of, header_of}
use Rattle.image_maker.proofs.create.add_items.Given as goal

-- where all fits, what came so far stands, and the rest takes the rest of the room
abbrev pub invariant-loop-item : goal.invariant-loop-item
invariant-loop-item l =
    (nodesize_of l.leaf ≡ nodesize_of l.fn.leaf) × (header_of l.leaf ≡ header_of l.fn.leaf)
    × (101 + (space_of (items_of l.fn.leaf) + space_of l.items) ≤ nodesize_of l.fn.leaf →
    (space_of (items_of l.leaf) + space_of (drop l.item-index l.items) ≡ space_of (items_of l.fn.leaf) + space_of l.items)
    × (items_of l.leaf ≡ items_of l.fn.leaf ++ take l.item-index l.items))

-- What a maker of leaves holds.
use Rattle.std.specs.Prelude.{ℕ, List}
use Rattle.verdict.specs.declared.key.Key.{Key}
use Rattle.image_maker.specs.declared.block.BlockHeader.{BlockHeader}
use Rattle.image_maker.specs.declared.leaf_item.LeafItem.{LeafItem}
use Rattle.image_maker.specs.declared.leaf.LeafMaker.{LeafMaker}

-- the items so far
abbrev pub items_of : LeafMaker → List LeafItem
items_of m = m.items.items

-- the size of the leaf in bytes
abbrev pub nodesize_of : LeafMaker → ℕ
nodesize_of m = m.nodesize

-- what the leaf's header says
abbrev pub header_of : LeafMaker → BlockHeader
header_of m = m.header

-- the header of a leaf
abbrev pub leaf_header : List ℕ → ℕ → ℕ → ℕ → BlockHeader
leaf_header fsid address owner generation =
    record { fsid = fsid; address = address; owner = owner; generation = generation; level = 0 }

-- an item
abbrev pub item : Key → List ℕ → LeafItem
item key bytes = record { key = key; bytes = bytes }

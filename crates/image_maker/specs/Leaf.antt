-- The items of a leaf, and the room that they take.
use Rattle.std.specs.Prelude.{ℕ, ◌+◌, List, [], ◌∷◌, length}
use Rattle.image_maker.specs.declared.leaf_item.LeafItem.{LeafItem}

-- the bytes of a leaf that items take behind its header: 25 for the head of each, and its own bytes
abbrev pub space_of : List LeafItem → ℕ
space_of [] = 0
space_of (i ∷ is) = 25 + length i.bytes + space_of is

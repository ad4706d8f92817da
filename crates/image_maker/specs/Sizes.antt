-- Serves private fields and functions alone: that the numbers of keys and pointers have their sizes, as their types say.
use Rattle.std.specs.Prelude.{ℕ, ◌<◌, ◌^◌, List, [], length, get_or}
use Rattle.verdict.specs.Rules.{no_key}
use Rattle.verdict.specs.declared.key.Key.{Key}
use Rattle.image_maker.specs.declared.leaf_item.LeafItem.{LeafItem}
use Rattle.image_maker.specs.declared.node.ChildPointer.{ChildPointer}

-- a key whose numbers have their sizes
pub record IsKey (key : Key) : Type 0 where
  pub objectid : key.objectid < 2 ^ 64
  pub offset : key.offset < 2 ^ 64

-- an item that stands for none
abbrev pub no_item : LeafItem
no_item = record { key = no_key; bytes = [] }

-- items whose keys are such
pub record HaveKeys (items : List LeafItem) : Type 0 where
  pub each : (place : ℕ) → place < length items → IsKey (get_or items place no_item).key

-- a pointer whose numbers have their sizes
pub record IsPointer (p : ChildPointer) : Type 0 where
  pub key : IsKey p.key
  pub address : p.address < 2 ^ 64
  pub generation : p.generation < 2 ^ 64

-- a pointer that stands for none
abbrev pub no_pointer : ChildPointer
no_pointer = record { key = no_key; address = 0; generation = 0 }

-- pointers that are such
pub record ArePointers (pointers : List ChildPointer) : Type 0 where
  pub each : (place : ℕ) → place < length pointers → IsPointer (get_or pointers place no_pointer)

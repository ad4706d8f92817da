-- What the reader of blocks makes of a made block: it is accepted wherever its keys are between the bounds that are expected, and
-- holds what it was made of.
use Rattle.std.specs.Prelude.{◌≡◌, ℕ, ◌+◌, ◌-◌, ◌<◌, ◌≤◌, true, List, [], ◌∷◌, length, get_or, map, Option, Some, None}
use Rattle.verdict.specs.Rules.{no_key}
use Rattle.verdict.specs.OnDisk.{key_below}
use Rattle.verdict.specs.declared.key.Key.{Key}
use Rattle.node_reader.specs.Layout
use Rattle.node_reader.specs.Faults.{block_fault}
use Rattle.node_reader.specs.declared.expect.Expect.{Expect}
use Rattle.node_reader.specs.declared.expect.Pointer.{Pointer}
use Rattle.image_maker.specs.declared.block.BlockHeader.{BlockHeader}
use Rattle.image_maker.specs.declared.leaf_item.LeafItem.{LeafItem}
use Rattle.image_maker.specs.declared.node.ChildPointer.{ChildPointer}

-- where a block with this header is expected, with a low and a high key, below the node at an address
abbrev pub expect_of : BlockHeader → Option Key → Option Key → ℕ → Expect
expect_of h low high parent =
    record { tree = h.owner; address = h.address; generation = h.generation; level = h.level; low = low; high = high; parent = parent }

-- the key at a place
abbrev pub key_at : List Key → ℕ → Key
key_at keys place = get_or keys place no_key

-- the first key is the low key, where there is one
abbrev pub StartsAt : Option Key → List Key → Type 0
StartsAt None keys = Unit {0}
StartsAt (Some low) keys = (0 < length keys) × (key_at keys 0 ≡ low)

-- the last key is below the high key, where there is one
abbrev pub EndsBelow : Option Key → List Key → Type 0
EndsBelow None keys = Unit {0}
EndsBelow (Some high) keys = 0 < length keys → key_below (key_at keys (length keys - 1)) high ≡ true

-- keys that ascend from a low key, where there is one, and stay below a high key, where there is one
pub record IsBetween (low high : Option Key) (keys : List Key) : Type 0 where
  pub first : StartsAt low keys
  pub ascending : (place : ℕ) → place + 1 < length keys → key_below (key_at keys place) (key_at keys (place + 1)) ≡ true
  pub last : EndsBelow high keys

-- the keys of items
abbrev pub item_keys : List LeafItem → List Key
item_keys items = map (λ i. i.key) items

-- an item as the reader gives it
abbrev pub read_item : LeafItem → Layout.LeafItem
read_item i = record { key = i.key; bytes = i.bytes }

-- a leaf with this header that is accepted and holds these items
pub record IsLeafOf (h : BlockHeader) (items : List LeafItem) (bytes : List ℕ) : Type 0 where
  pub accepted : (low high : Option Key) (parent : ℕ) → IsBetween low high (item_keys items) → block_fault bytes h.fsid (expect_of h low high parent) ≡ None
  pub holds : Layout.items_of bytes ≡ map read_item items

-- the keys of pointers
abbrev pub pointer_keys : List ChildPointer → List Key
pointer_keys pointers = map (λ p. p.key) pointers

-- a pointer as the reader gives it
abbrev pub read_pointer : ChildPointer → Pointer
read_pointer p = record { key = p.key; address = p.address; generation = p.generation }

-- no pointer is newer than the node
abbrev pub IsNewest : ℕ → List ChildPointer → Type 0
IsNewest generation [] = Unit {0}
IsNewest generation (p ∷ ps) = (p.generation ≤ generation) × IsNewest generation ps

-- a node with this header that is accepted, where it has pointers and none is newer, and holds these
pub record IsNodeOf (h : BlockHeader) (pointers : List ChildPointer) (bytes : List ℕ) : Type 0 where
  pub accepted : (low high : Option Key) (parent : ℕ) → IsBetween low high (pointer_keys pointers) → 0 < h.level → 0 < length pointers → IsNewest h.generation pointers
      → block_fault bytes h.fsid (expect_of h low high parent) ≡ None
  pub holds : Layout.pointers_of bytes ≡ map read_pointer pointers

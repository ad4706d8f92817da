-- A tree block: a header of 101 bytes, and behind it entries of one size back to back, which are
-- pointers of 33 bytes in a node and items of 25 bytes in a leaf. An item's bytes lie towards the end
-- of the leaf, and its offset counts from the end of the header.
use Rattle.std.specs.Prelude.{ℕ, ◌+◌, ◌*◌, ◌<◌, ◌≤◌, ◌≡◌, ◌==◌, if◌then◌else◌, List, length, slice_index, Option, Some, None}
use Rattle.recon_bytes.specs.Field.{field}
use Rattle.verdict.specs.Image.{range}
use Rattle.verdict.specs.OnDisk.{key_of}
use Rattle.verdict.specs.declared.key.Key.{Key}
use Rattle.node_reader.specs.Places.{each_from}
use Rattle.node_reader.specs.declared.expect.Pointer.{Pointer}

-- the header's generation
abbrev pub generation_of : List ℕ → ℕ
generation_of bytes = field 8 bytes 0x50

-- the id of the tree that the header names as the owner
abbrev pub owner_of : List ℕ → ℕ
owner_of bytes = field 8 bytes 0x58

-- how many entries the header counts
abbrev pub count_of : List ℕ → ℕ
count_of bytes = field 4 bytes 0x60

-- the header's level, 0 in a leaf
abbrev pub level_of : List ℕ → ℕ
level_of bytes = slice_index bytes 0x64

-- the size of an entry in a block of a level
abbrev pub entry_size : ℕ → ℕ
entry_size level = if level == 0 then 25 else 33

-- where the entry at a place begins
abbrev pub entry_start : ℕ → ℕ → ℕ
entry_start size place = 101 + size * place

-- the key of the entry at a place
abbrev pub entry_key : List ℕ → ℕ → ℕ → Key
entry_key bytes size place = key_of bytes (entry_start size place)

-- the key of the first entry, if there is one
abbrev pub first_key_of : List ℕ → Option Key
first_key_of bytes = if count_of bytes == 0 then None else Some (entry_key bytes (entry_size (level_of bytes)) 0)

-- the pointer at a place of a node
abbrev pub pointer_of : List ℕ → ℕ → Pointer
pointer_of bytes place = record {
  key = entry_key bytes 33 place;
  address = field 8 bytes (entry_start 33 place + 17);
  generation = field 8 bytes (entry_start 33 place + 25);
}

-- where the bytes of the item at a place of a leaf begin, counted from the end of the header
abbrev pub item_offset : List ℕ → ℕ → ℕ
item_offset bytes place = field 4 bytes (entry_start 25 place + 17)

-- how many bytes the item at a place of a leaf has
abbrev pub item_size : List ℕ → ℕ → ℕ
item_size bytes place = field 4 bytes (entry_start 25 place + 21)

-- an item of a leaf: its key and its bytes
pub record LeafItem : Type 0 where
  pub key : Key
  pub bytes : List ℕ

-- the item at a place of a leaf
abbrev pub item_of : List ℕ → ℕ → LeafItem
item_of bytes place = record {
  key = entry_key bytes 25 place;
  bytes = range (101 + item_offset bytes place) (item_size bytes place) bytes;
}

-- the pointers that a node's header counts
abbrev pub pointers_of : List ℕ → List Pointer
pointers_of bytes = each_from (pointer_of bytes) 0 (count_of bytes)

-- the items that a leaf's header counts
abbrev pub items_of : List ℕ → List LeafItem
items_of bytes = each_from (item_of bytes) 0 (count_of bytes)

-- a block whose header, entries and items' bytes lie inside it
pub record IsSound (bytes : List ℕ) : Type 0 where
  pub header : 101 ≤ length bytes
  pub entries : 101 + entry_size (level_of bytes) * count_of bytes ≤ length bytes
  pub items : level_of bytes ≡ 0 → (place : ℕ) → place < count_of bytes → 101 + (item_offset bytes place + item_size bytes place) ≤ length bytes

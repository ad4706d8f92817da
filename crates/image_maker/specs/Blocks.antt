-- The bytes of tree blocks: a checksum in 32 bytes, a header of 69 more, the entries, and what lies behind them.
use Rattle.std.specs.Prelude.{ℕ, ◌-◌, ◌*◌, List, [], ◌∷◌, ◌++◌, length}
use Rattle.recon_crc.specs.Checksum.{crc32c_of}
use Rattle.verdict.specs.declared.key.Key.{Key}
use Rattle.image_maker.specs.Numbers.{u8, u32, u64, zeros}
use Rattle.image_maker.specs.Ids.{chunk_tree_uuid}
use Rattle.image_maker.specs.Leaf.{space_of}
use Rattle.image_maker.specs.declared.block.BlockHeader.{BlockHeader}
use Rattle.image_maker.specs.declared.leaf_item.LeafItem.{LeafItem}
use Rattle.image_maker.specs.declared.node.ChildPointer.{ChildPointer}

-- a key in 17 bytes: objectid, kind, offset
unfoldable pub key_bytes : Key → List ℕ
key_bytes key = u64 key.objectid ++ u8 key.kind ++ u64 key.offset

-- a header behind the checksum: fsid, address, flags with backref revision, chunk tree uuid, generation, owner, number of
-- entries, level
unfoldable pub header_bytes : BlockHeader → ℕ → List ℕ
header_bytes h count =
    h.fsid ++ u64 h.address
    ++ u8 1 ++ zeros 6 ++ u8 1
    ++ chunk_tree_uuid
    ++ u64 h.generation ++ u64 h.owner
    ++ u32 count ++ u8 h.level

-- bytes with their checksum in 32 bytes in front, of which it takes the first four
unfoldable pub with_sum : List ℕ → List ℕ
with_sum bytes = u32 (crc32c_of bytes) ++ zeros 28 ++ bytes

-- the head of an item whose bytes begin at an offset: key, offset, size
unfoldable pub head_bytes : LeafItem → ℕ → List ℕ
head_bytes item offset = key_bytes item.key ++ u32 offset ++ u32 (length item.bytes)

-- the heads of items whose bytes fill a leaf down from an offset, the first item's the last bytes
unfoldable pub heads_bytes : ℕ → List LeafItem → List ℕ
heads_bytes end [] = []
heads_bytes end (item ∷ items) = head_bytes item (end - length item.bytes) ++ heads_bytes (end - length item.bytes) items

-- the bytes of items, the first item's the last bytes
unfoldable pub data_bytes : List LeafItem → List ℕ
data_bytes [] = []
data_bytes (item ∷ items) = data_bytes items ++ item.bytes

-- a leaf of a size: header, heads, a gap of zeros, the items' bytes
unfoldable pub leaf_bytes : BlockHeader → ℕ → List LeafItem → List ℕ
leaf_bytes h size items = with_sum
    (header_bytes h (length items)
    ++ heads_bytes (size - 101) items
    ++ zeros (size - 101 - space_of items)
    ++ data_bytes items)

-- a pointer of a node: key, address, generation
unfoldable pub pointer_bytes : ChildPointer → List ℕ
pointer_bytes p = key_bytes p.key ++ u64 p.address ++ u64 p.generation

-- the pointers of a node
unfoldable pub pointers_bytes : List ChildPointer → List ℕ
pointers_bytes [] = []
pointers_bytes (p ∷ ps) = pointer_bytes p ++ pointers_bytes ps

-- a node of a size: header, pointers, zeros
unfoldable pub node_bytes : BlockHeader → ℕ → List ChildPointer → List ℕ
node_bytes h size pointers = with_sum
    (header_bytes h (length pointers)
    ++ pointers_bytes pointers
    ++ zeros (size - 101 - 33 * length pointers))

-- the header of a node
abbrev pub node_header : List ℕ → ℕ → ℕ → ℕ → ℕ → BlockHeader
node_header fsid address owner generation level =
    record { fsid = fsid; address = address; owner = owner; generation = generation; level = level }

-- The bytes of items, as their fields in order.
use Rattle.std.specs.Prelude.{ℕ, List, ◌++◌, length, Option, Some, None}
use Rattle.verdict.specs.declared.key.Key.{Key}
use Rattle.image_maker.specs.Ids.{fsid, chunk_tree_uuid, device_uuid}
use Rattle.image_maker.specs.Numbers.{u8, u16, u32, u64, zeros}
use Rattle.image_maker.specs.declared.items.ChunkAt.{ChunkAt}
use Rattle.verdict.specs.declared.kinds.TheConstants.{TREE_BLOCK_REF}

-- a stripe of a chunk on the device 1: device, offset, uuid
unfoldable pub stripe_bytes : ℕ → List ℕ
stripe_bytes physical = u64 1 ++ u64 physical ++ device_uuid

-- the stripes of a chunk: their number, sub-stripes, and each of them
unfoldable pub stripes_bytes : ℕ → Option ℕ → List ℕ
stripes_bytes first None = u16 1 ++ u16 0 ++ stripe_bytes first
stripes_bytes first (Some second) = u16 2 ++ u16 0 ++ stripe_bytes first ++ stripe_bytes second

-- CHUNK_ITEM: length, owner, stripe length, type, io alignment, io width, sector size, stripes
unfoldable pub chunk_bytes : ChunkAt → List ℕ
chunk_bytes c =
    u64 c.length ++ u64 2 ++ u64 65536 ++ u64 c.class
    ++ u32 65536 ++ u32 65536 ++ u32 4096
    ++ stripes_bytes c.first c.second

-- DEV_ITEM of the device 1: device, size, bytes in chunks, 42 bytes of zero, uuid, fsid
unfoldable pub device_bytes : ℕ → ℕ → List ℕ
device_bytes total used = u64 1 ++ u64 total ++ u64 used ++ zeros 42 ++ device_uuid ++ fsid

-- DEV_EXTENT of a stripe of a chunk: chunk tree, chunk objectid, the chunk's start and length, chunk tree uuid
unfoldable pub dev_extent_bytes : ChunkAt → List ℕ
dev_extent_bytes c = u64 3 ++ u64 256 ++ u64 c.start ++ u64 c.length ++ chunk_tree_uuid

-- ROOT_ITEM: an inode of 160 bytes of zero, generation, root directory, root block, 32 bytes of zero, number of references, 18
-- bytes of zero, level, 200 bytes of zero
unfoldable pub root_bytes : ℕ → ℕ → ℕ → ℕ → List ℕ
root_bytes generation dirid bytenr level =
    zeros 160 ++ u64 generation ++ u64 dirid ++ u64 bytenr
    ++ zeros 32 ++ u32 1 ++ zeros 18 ++ u8 level ++ zeros 200

-- METADATA_ITEM: number of references, generation, flags, and the one reference inline, which is of kind 176 with its tree
unfoldable pub metadata_bytes : ℕ → ℕ → List ℕ
metadata_bytes generation tree = u64 1 ++ u64 generation ++ u64 2 ++ u8 TREE_BLOCK_REF ++ u64 tree

-- BLOCK_GROUP_ITEM: bytes used, chunk objectid, type
unfoldable pub group_bytes : ℕ → ℕ → List ℕ
group_bytes used class = u64 used ++ u64 256 ++ u64 class

-- INODE_ITEM: generation, transid, size, bytes, block group, number of links, uid with gid, mode, 104 bytes of zero
unfoldable pub inode_bytes : ℕ → ℕ → ℕ → ℕ → List ℕ
inode_bytes generation size nbytes mode =
    u64 generation ++ u64 0 ++ u64 size ++ u64 nbytes ++ u64 0
    ++ u32 1 ++ u64 0 ++ u32 mode ++ zeros 104

-- INODE_REF of one entry: index, length of the name, name
unfoldable pub inode_ref_bytes : ℕ → List ℕ → List ℕ
inode_ref_bytes index name = u64 index ++ u16 (length name) ++ name

-- an entry of a DIR_ITEM or a DIR_INDEX: location, transid, length of data, length of the name, type, name
unfoldable pub dir_entry_bytes : Key → ℕ → ℕ → List ℕ → List ℕ
dir_entry_bytes location transid sort name =
    u64 location.objectid ++ u8 location.kind ++ u64 location.offset
    ++ u64 transid ++ u16 0 ++ u16 (length name) ++ u8 sort ++ name

-- The bytes of the items that a volume has and the base image has none of, as their fields in order. They serve to state
-- what private functions make.
use Rattle.std.specs.Prelude.{ℕ, zero, suc, ◌+◌, ◌*◌, List, [], ◌++◌, length, flat_map, if◌then◌else◌}
use Rattle.image_maker.specs.Numbers.{u8, u16, u32, u64, zeros}
use Rattle.volume_maker.specs.declared.item_bytes.InodeAt.{InodeAt}
use Rattle.volume_maker.specs.declared.volume.Extent.{Extent}

-- INODE_ITEM: generation, transid, size, bytes, block group, number of links, uid with gid, mode, rdev, flags, 88 bytes of zero
unfoldable pub inode_bytes : InodeAt → List ℕ
inode_bytes i =
    u64 i.generation ++ u64 0 ++ u64 i.size ++ u64 i.nbytes ++ u64 0
    ++ u32 1 ++ u64 0 ++ u32 i.mode ++ u64 0 ++ u64 i.flags ++ zeros 88

-- the length of an extent in bytes
abbrev pub extent_length : Extent → ℕ
extent_length extent = 4096 * extent.sectors

-- EXTENT_DATA of a file that shows a whole extent: generation, length in memory, compression with encryption and encoding,
-- type, which is 2 where it is preallocated, then the extent's address and length, the first byte shown, the length shown
unfoldable pub file_extent_bytes : ℕ → Extent → List ℕ
file_extent_bytes generation extent =
    u64 generation ++ u64 (extent_length extent) ++ u32 0
    ++ u8 (if extent.preallocated then 2 else 1)
    ++ u64 (13631488 + 4096 * extent.sector) ++ u64 (extent_length extent)
    ++ u64 0 ++ u64 (extent_length extent)

-- EXTENT_DATA_REF of a file of the file tree that shows an extent from its first byte on: tree, inode, offset, count
unfoldable pub reference_bytes : ℕ → List ℕ
reference_bytes ino = u64 5 ++ u64 ino ++ u64 0 ++ u32 1

-- the same as it stands inline: its kind in front
unfoldable pub inline_bytes : ℕ → List ℕ
inline_bytes ino = u8 178 ++ reference_bytes ino

-- EXTENT_ITEM of data: number of references, generation, flags, and the references that stand inline
unfoldable pub extent_bytes : ℕ → ℕ → List ℕ → List ℕ
extent_bytes generation count inline = u64 count ++ u64 generation ++ u64 1 ++ flat_map inline_bytes inline

-- EXTENT_CSUM of so many sectors that have one sum
unfoldable pub sums_bytes : ℕ → ℕ → List ℕ
sums_bytes sum zero = []
sums_bytes sum (suc sectors) = u32 sum ++ sums_bytes sum sectors

-- ROOT_REF or ROOT_BACKREF of a subvolume in the top directory: directory, sequence, length of the name, name
unfoldable pub root_link_bytes : ℕ → List ℕ → List ℕ
root_link_bytes sequence name = u64 256 ++ u64 sequence ++ u16 (length name) ++ name

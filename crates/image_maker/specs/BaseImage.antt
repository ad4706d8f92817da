-- The base image: a file system of 32 MiB with nodes of 16 KiB, an empty top directory and nothing else.
use Rattle.std.specs.Prelude.{ℕ, List, [], ◌∷◌, Option, Some, None}
use Rattle.verdict.specs.Image.{applied}
use Rattle.verdict.specs.declared.machine.HeldWrite.{HeldWrite}
use Rattle.image_maker.specs.Numbers.{zeros}
use Rattle.image_maker.specs.Superblock.{part, superblock_bytes}
use Rattle.image_maker.specs.Items.{device_bytes}
use Rattle.image_maker.specs.Trees.{entry, root_entry, metadata_entry, group_entry, chunk_entry, dev_extent_entry, directory_inode, directory_ref, tree_leaf}
use Rattle.image_maker.specs.declared.items.ChunkAt.{ChunkAt}
use Rattle.image_maker.specs.declared.trees.TreeBlock.{TreeBlock}
use Rattle.verdict.specs.declared.kinds.TheConstants.{DEV_ITEM}

-- a chunk: its start, length and type, and where its first and its second copy stand
abbrev pub chunk : ℕ → ℕ → ℕ → ℕ → Option ℕ → ChunkAt
chunk start long class first second = record { start = start; length = long; class = class; first = first; second = second }

-- the system chunk
abbrev pub system_chunk : ChunkAt
system_chunk = chunk 1048576 4194304 2 1048576 None

-- the metadata chunk, in two copies
abbrev pub metadata_chunk : ChunkAt
metadata_chunk = chunk 5242880 8388608 36 5242880 (Some 13631488)

-- the data chunk
abbrev pub data_chunk : ChunkAt
data_chunk = chunk 13631488 8388608 1 22020096 None

-- a tree's one block: the tree, its address, its generation
abbrev pub tree_block : ℕ → ℕ → ℕ → TreeBlock
tree_block tree address generation = record { tree = tree; address = address; generation = generation }

-- the root tree's block
abbrev pub root_block : TreeBlock
root_block = tree_block 1 5242880 1

-- the extent tree's block
abbrev pub extent_block : TreeBlock
extent_block = tree_block 2 5259264 1

-- the chunk tree's block
abbrev pub chunk_block : TreeBlock
chunk_block = tree_block 3 1048576 1

-- the device tree's block
abbrev pub device_block : TreeBlock
device_block = tree_block 4 5275648 1

-- the file tree's block
abbrev pub file_block : TreeBlock
file_block = tree_block 5 5292032 1

-- the sums tree's block
abbrev pub sum_block : TreeBlock
sum_block = tree_block 7 5308416 1

-- the root tree: the trees that it roots
unfoldable pub root_leaf : List ℕ
root_leaf = tree_leaf root_block
    (root_entry extent_block
    ∷ root_entry device_block
    ∷ root_entry file_block
    ∷ root_entry sum_block
    ∷ [])

-- the extent tree: the blocks, and the block groups with their used bytes
unfoldable pub extent_leaf : List ℕ
extent_leaf = tree_leaf extent_block
    (metadata_entry chunk_block
    ∷ group_entry system_chunk 16384
    ∷ metadata_entry root_block
    ∷ group_entry metadata_chunk 81920
    ∷ metadata_entry extent_block
    ∷ metadata_entry device_block
    ∷ metadata_entry file_block
    ∷ metadata_entry sum_block
    ∷ group_entry data_chunk 0
    ∷ [])

-- the chunk tree: the device, and the chunks
unfoldable pub chunk_leaf : List ℕ
chunk_leaf = tree_leaf chunk_block
    (entry 1 DEV_ITEM 1 (device_bytes 33554432 29360128)
    ∷ chunk_entry system_chunk
    ∷ chunk_entry metadata_chunk
    ∷ chunk_entry data_chunk
    ∷ [])

-- the device tree: the stripes of the chunks
unfoldable pub device_leaf : List ℕ
device_leaf = tree_leaf device_block
    (dev_extent_entry system_chunk 1048576
    ∷ dev_extent_entry metadata_chunk 5242880
    ∷ dev_extent_entry metadata_chunk 13631488
    ∷ dev_extent_entry data_chunk 22020096
    ∷ [])

-- the file tree: an empty top directory
unfoldable pub file_leaf : List ℕ
file_leaf = tree_leaf file_block (directory_inode 0 ∷ directory_ref ∷ [])

-- the sums tree: nothing
unfoldable pub sum_leaf : List ℕ
sum_leaf = tree_leaf sum_block []

-- what stands in the image, at byte offsets: the superblock, the chunk tree's block, and both copies of each other block
unfoldable pub base_parts : List HeldWrite
base_parts =
    part 65536 (superblock_bytes 1 5242880)
    ∷ part 1048576 chunk_leaf
    ∷ part 5242880 root_leaf
    ∷ part 13631488 root_leaf
    ∷ part 5259264 extent_leaf
    ∷ part 13647872 extent_leaf
    ∷ part 5275648 device_leaf
    ∷ part 13664256 device_leaf
    ∷ part 5292032 file_leaf
    ∷ part 13680640 file_leaf
    ∷ part 5308416 sum_leaf
    ∷ part 13697024 sum_leaf
    ∷ []

-- the base image: 33,554,432 bytes, zero but for these
unfoldable pub base_image_bytes : List ℕ
base_image_bytes = applied (zeros 33554432) base_parts

-- The items of the trees of the made images, and the leaves that are made of them.
use Rattle.std.specs.Prelude.{ℕ, ◌==◌, if◌then◌else◌, List, [], ◌∷◌}
use Rattle.image_maker.specs.Ids.{fsid}
use Rattle.image_maker.specs.Maker.{leaf_header, item}
use Rattle.image_maker.specs.Blocks.{leaf_bytes}
use Rattle.image_maker.specs.Items.{chunk_bytes, dev_extent_bytes, root_bytes, metadata_bytes, group_bytes, inode_bytes, inode_ref_bytes}
use Rattle.image_maker.specs.declared.block.BlockHeader.{BlockHeader}
use Rattle.image_maker.specs.declared.leaf_item.LeafItem.{LeafItem}
use Rattle.image_maker.specs.declared.items.ChunkAt.{ChunkAt}
use Rattle.image_maker.specs.declared.trees.TreeBlock.{TreeBlock}
use Rattle.image_maker.specs.declared.trees.ExtentRow.{ExtentRow}
use Rattle.image_maker.specs.declared.trees.ExtentRow.TheVariants.{Block, Group}
use Rattle.verdict.specs.declared.kinds.TheConstants.{INODE_ITEM, INODE_REF, ROOT_ITEM, METADATA_ITEM, BLOCK_GROUP_ITEM, DEV_EXTENT, CHUNK_ITEM}

-- an item by its key's objectid, kind and offset, and its bytes
abbrev pub entry : ℕ → ℕ → ℕ → List ℕ → LeafItem
entry objectid kind offset bytes = item (record { objectid = objectid; kind = kind; offset = offset }) bytes

-- the inode of a tree's root directory
abbrev pub root_directory : ℕ → ℕ
root_directory tree = if tree == 5 then 256 else 0

-- the ROOT_ITEM of a tree whose one block this is
unfoldable pub root_entry : TreeBlock → LeafItem
root_entry b = entry b.tree ROOT_ITEM 0 (root_bytes b.generation (root_directory b.tree) b.address 0)

-- the METADATA_ITEM of a block
unfoldable pub metadata_entry : TreeBlock → LeafItem
metadata_entry b = entry b.address METADATA_ITEM 0 (metadata_bytes b.generation b.tree)

-- the BLOCK_GROUP_ITEM of a chunk in which so many bytes are used
unfoldable pub group_entry : ChunkAt → ℕ → LeafItem
group_entry c used = entry c.start BLOCK_GROUP_ITEM c.length (group_bytes used c.class)

-- the item of a row of an extent tree
unfoldable pub extent_entry : ExtentRow → LeafItem
extent_entry (Block b) = metadata_entry b
extent_entry (Group c used) = group_entry c used

-- the CHUNK_ITEM of a chunk
unfoldable pub chunk_entry : ChunkAt → LeafItem
chunk_entry c = entry 256 CHUNK_ITEM c.start (chunk_bytes c)

-- the DEV_EXTENT of a chunk's stripe at a device offset
unfoldable pub dev_extent_entry : ChunkAt → ℕ → LeafItem
dev_extent_entry c physical = entry 1 DEV_EXTENT physical (dev_extent_bytes c)

-- the name of a directory's parent
abbrev pub dot_dot : List ℕ
dot_dot = 46 ∷ 46 ∷ []

-- the INODE_ITEM of the top directory with names of so many bytes in it
unfoldable pub directory_inode : ℕ → LeafItem
directory_inode size = entry 256 INODE_ITEM 0 (inode_bytes 1 size 16384 16877)

-- the INODE_REF of the top directory
unfoldable pub directory_ref : LeafItem
directory_ref = entry 256 INODE_REF 256 (inode_ref_bytes 0 dot_dot)

-- the header of a tree's block
abbrev pub block_header : TreeBlock → BlockHeader
block_header b = leaf_header fsid b.address b.tree b.generation

-- the leaf of 16384 bytes that is a tree's one block
unfoldable pub tree_leaf : TreeBlock → List LeafItem → List ℕ
tree_leaf b items = leaf_bytes (block_header b) 16384 items

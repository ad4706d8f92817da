-- The writes that make an empty file `hello` in the top directory of the base image, as one commit of generation 2.
use Rattle.std.specs.Prelude.{ℕ, List, [], ◌∷◌, ◌++◌}
use Rattle.recon_crc.specs.Checksum.{name_hash_of}
use Rattle.verdict.specs.declared.machine.Event.{Event}
use Rattle.verdict.specs.declared.machine.Event.TheVariants.{Write}
use Rattle.image_maker.specs.Superblock.{superblock_bytes}
use Rattle.image_maker.specs.Items.{inode_bytes, inode_ref_bytes, dir_entry_bytes}
use Rattle.image_maker.specs.Trees.{entry, root_entry, metadata_entry, group_entry, directory_inode, directory_ref, tree_leaf}
use Rattle.image_maker.specs.BaseImage.{tree_block, system_chunk, metadata_chunk, data_chunk, chunk_block, device_block, sum_block}
use Rattle.image_maker.specs.declared.leaf_item.LeafItem.{LeafItem}
use Rattle.image_maker.specs.declared.trees.TreeBlock.{TreeBlock}
use Rattle.verdict.specs.declared.kinds.TheConstants.{INODE_ITEM, INODE_REF, DIR_ITEM, DIR_INDEX}

-- the file tree's new block
abbrev pub new_file_block : TreeBlock
new_file_block = tree_block 5 5324800 2

-- the extent tree's new block
abbrev pub new_extent_block : TreeBlock
new_extent_block = tree_block 2 5341184 2

-- the root tree's new block
abbrev pub new_root_block : TreeBlock
new_root_block = tree_block 1 5357568 2

-- the name of the file
unfoldable pub hello : List ℕ
hello = 104 ∷ 101 ∷ 108 ∷ 108 ∷ 111 ∷ []

-- the entry of the file in the top directory: the inode 257, a file
unfoldable pub hello_entry : List ℕ
hello_entry = dir_entry_bytes (record { objectid = 257; kind = INODE_ITEM; offset = 0 }) 2 1 hello

-- the file tree: the top directory with the file's DIR_ITEM and DIR_INDEX, the file's INODE_ITEM and INODE_REF
unfoldable pub new_file_items : List LeafItem
new_file_items =
    directory_inode 10
    ∷ directory_ref
    ∷ entry 256 DIR_ITEM (name_hash_of hello) hello_entry
    ∷ entry 256 DIR_INDEX 2 hello_entry
    ∷ entry 257 INODE_ITEM 0 (inode_bytes 2 0 0 33188)
    ∷ entry 257 INODE_REF 256 (inode_ref_bytes 2 hello)
    ∷ []

-- the file tree's leaf with further items behind the file's
unfoldable pub new_file_leaf : List LeafItem → List ℕ
new_file_leaf more = tree_leaf new_file_block (new_file_items ++ more)

-- the extent tree: the three new blocks in place of the old
unfoldable pub new_extent_leaf : List ℕ
new_extent_leaf = tree_leaf new_extent_block
    (metadata_entry chunk_block
    ∷ group_entry system_chunk 16384
    ∷ group_entry metadata_chunk 81920
    ∷ metadata_entry device_block
    ∷ metadata_entry sum_block
    ∷ metadata_entry new_file_block
    ∷ metadata_entry new_extent_block
    ∷ metadata_entry new_root_block
    ∷ group_entry data_chunk 0
    ∷ [])

-- the root tree: the extent tree and the file tree at their new blocks
unfoldable pub new_root_leaf : List ℕ
new_root_leaf = tree_leaf new_root_block
    (root_entry new_extent_block
    ∷ root_entry device_block
    ∷ root_entry new_file_block
    ∷ root_entry sum_block
    ∷ [])

-- a write of bytes at a device offset
abbrev pub write_at : ℕ → List ℕ → Event
write_at at bytes = Write 0 at bytes

-- the writes, with further items in the file tree's leaf: the first copies of the new blocks, their second copies, the superblock
unfoldable pub create_events : List LeafItem → List Event
create_events more =
    write_at 5324800 (new_file_leaf more)
    ∷ write_at 5341184 new_extent_leaf
    ∷ write_at 5357568 new_root_leaf
    ∷ write_at 13713408 (new_file_leaf more)
    ∷ write_at 13729792 new_extent_leaf
    ∷ write_at 13746176 new_root_leaf
    ∷ write_at 65536 (superblock_bytes 2 5357568)
    ∷ []

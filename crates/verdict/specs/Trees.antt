-- The trees of a file system: their sorts by their ids, the sizes of their blocks.
use Rattle.std.specs.Prelude.{ℕ, Bool, ◌||◌, ◌==◌, bit_and, if◌then◌else◌}
use Rattle.verdict.specs.declared.trees.TheConstants.{ROOT_TREE, EXTENT_TREE, CHUNK_TREE, DEV_TREE, CSUM_TREE, QUOTA_TREE, UUID_TREE, FREE_SPACE_TREE, BLOCK_GROUP_TREE}
use Rattle.verdict.specs.declared.place.TreeSort.{TreeSort}
use Rattle.verdict.specs.declared.place.TreeSort.TheVariants.{Root, Extent, Chunk, Device, File, Sums, Groups, Unread}

-- the sort of a tree by its id; the trees 5 and -9 and the subvolumes hold files
abbrev pub sort_of : ℕ → TreeSort
sort_of tree =
    if tree == ROOT_TREE then Root else
    (if tree == EXTENT_TREE then Extent else
    (if tree == CHUNK_TREE then Chunk else
    (if tree == DEV_TREE then Device else
    (if tree == CSUM_TREE then Sums else
    (if tree == QUOTA_TREE then Unread else
    (if tree == UUID_TREE then Unread else
    (if tree == FREE_SPACE_TREE then Unread else
    (if tree == BLOCK_GROUP_TREE then Groups else File))))))))

-- whether the block groups have a tree of their own, 11, and do not stand in that of the extents: compat_ro bit 3
abbrev pub has_group_tree : ℕ → Bool
has_group_tree compat_ro = bit_and compat_ro 8 == 8

-- the sizes in bytes that a tree block may have
abbrev pub is_node_size : ℕ → Bool
is_node_size n = n == 4096 || n == 8192 || n == 16384 || n == 32768 || n == 65536

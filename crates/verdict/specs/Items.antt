-- The rules on one item of a leaf. A finding names the tree, the leaf and the item's key.
use Rattle.std.specs.Prelude.{ℕ, ◌+◌, ◌%◌, Bool, not, false, ◌&&◌, ◌||◌, ◌==◌, nat_lt, nat_le}
use Rattle.verdict.specs.Rules.{TableRow}
use Rattle.verdict.specs.declared.key.Key.{Key}
use Rattle.verdict.specs.declared.kinds.TheConstants.{INODE_ITEM, INODE_REF, INODE_EXTREF, XATTR_ITEM, ORPHAN_ITEM, DIR_ITEM, DIR_INDEX, EXTENT_DATA, EXTENT_CSUM, ROOT_ITEM, ROOT_BACKREF, ROOT_REF, EXTENT_ITEM, METADATA_ITEM, TREE_BLOCK_REF, EXTENT_DATA_REF, SHARED_BLOCK_REF, SHARED_DATA_REF, BLOCK_GROUP_ITEM, DEV_EXTENT, DEV_ITEM, CHUNK_ITEM}
use Rattle.verdict.specs.declared.finding.Finding.{Finding}
use Rattle.verdict.specs.declared.finding.Family.{Family}
use Rattle.verdict.specs.declared.finding.Family.TheVariants.{U}
use Rattle.verdict.specs.declared.place.At.{At}
use Rattle.verdict.specs.declared.place.TreeSort.{TreeSort}
use Rattle.verdict.specs.declared.place.TreeSort.TheVariants.{Root, Extent, Chunk, Device, File, Sums, Groups, Unread}

-- the finding of a rule on the item with this key at a place
abbrev pub item_finding : At → Key → Family → ℕ → ℕ → Finding
item_finding at key family number detail = record {
  rule = record { family = family; number = number };
  tree = at.tree;
  block = at.block;
  key = key;
  detail = detail;
}

-- the row of a rule on that item
abbrev pub item_rule : At → Key → Bool → Family → ℕ → ℕ → TableRow
item_rule at key fails family number detail = record { fails = fails; finding = item_finding at key family number detail }

-- a multiple of a sector, which has 4096 bytes
abbrev pub is_multiple : ℕ → Bool
is_multiple n = n % 4096 == 0

-- whether n bytes from an offset on end beyond the greatest number of 64 bits
abbrev pub passes_64 : ℕ → ℕ → Bool
passes_64 at n = nat_lt 18446744073709551615 (at + n)

-- the ids from 256 to 2^64 - 256, which subvolumes, files and directories have
abbrev pub is_free_id : ℕ → Bool
is_free_id id = nat_le 256 id && nat_le id 18446744073709551360

-- the objectid -5, of orphan items
abbrev pub orphan_objectid : ℕ
orphan_objectid = 18446744073709551611

-- the kinds of items that are read in a tree of a sort; the orphan item is one of a tree of files
abbrev pub is_kind_of : TreeSort → ℕ → Bool
is_kind_of Root kind = kind == ROOT_ITEM || kind == ROOT_BACKREF || kind == ROOT_REF
is_kind_of Extent kind =
    kind == EXTENT_ITEM || kind == METADATA_ITEM || kind == TREE_BLOCK_REF || kind == EXTENT_DATA_REF
    || kind == SHARED_BLOCK_REF || kind == SHARED_DATA_REF || kind == BLOCK_GROUP_ITEM
is_kind_of Chunk kind = kind == DEV_ITEM || kind == CHUNK_ITEM
is_kind_of Device kind = kind == DEV_EXTENT
is_kind_of File kind =
    kind == INODE_ITEM || kind == INODE_REF || kind == INODE_EXTREF || kind == XATTR_ITEM
    || kind == ORPHAN_ITEM || kind == DIR_ITEM || kind == DIR_INDEX || kind == EXTENT_DATA
is_kind_of Sums kind = kind == EXTENT_CSUM
is_kind_of Groups kind = kind == BLOCK_GROUP_ITEM
is_kind_of Unread kind = false

-- whether an item may have this objectid in a tree of files: that of a file or directory, and in an orphan item also -5
abbrev pub is_file_objectid : Key → Bool
is_file_objectid key = is_free_id key.objectid || (key.kind == ORPHAN_ITEM && key.objectid == orphan_objectid)

-- whether a tree of a sort lists the item with this key
abbrev pub is_listed : TreeSort → Key → Bool
is_listed File key = is_kind_of File key.kind && is_file_objectid key
is_listed sort key = is_kind_of sort key.kind

-- U9: the tree does not list the item
abbrev pub listed_rule : At → Key → TableRow
listed_rule at key = item_rule at key (not (is_listed at.sort key)) U 9 key.kind

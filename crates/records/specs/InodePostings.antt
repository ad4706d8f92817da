-- What a record says of inodes and their types: the accounts A9 and A10.
use Rattle.std.specs.Prelude.{ℕ, ◌==◌, ◌||◌, bit_and, List, [], ◌∷◌, ◌++◌, length, flat_map, if◌then◌else◌}
use Rattle.fs_items.specs.declared.inode.InodeItem.{InodeItem}
use Rattle.fs_items.specs.declared.file_extent.FileExtent.{FileExtent}
use Rattle.fs_items.specs.declared.file_extent.TheConstants.{INLINE}
use Rattle.fs_items.specs.InodeRefRow.{NameFields}
use Rattle.fs_items.specs.DirRow.{EntryFields}
use Rattle.accounts.specs.declared.postings.Posting.{Posting}
use Rattle.accounts.specs.Kinds.{inode, inode_type}
use Rattle.accounts.specs.declared.kinds.TheConstants.{INODE_ITEMS, INODE_OTHERS, INODE_LINKS, INODE_NAMES, INODE_ORPHANS, DIR_SIZE, DIR_NAMES, FILE_BYTES, FILE_RANGES, TYPE_ENTRIES, TYPE_ITEMS}
use Rattle.records.specs.Part.{Part}
use Rattle.records.specs.Part.Part.{InodePart, NamesPart, XattrPart, OrphanPart, EntriesPart, FileExtentPart}
use Rattle.verdict.specs.declared.kinds.TheConstants.{INODE_ITEM}
use Rattle.accounts.specs.Lent.{to}

-- the type that a mode's type bits say, as directory entries number the types: 1 regular file, 2 directory, 3 character device,
-- 4 block device, 5 FIFO, 6 socket, 7 symbolic link; 0 for other bits, which no inode has that was read
abbrev pub type_of_mode : ℕ → ℕ
type_of_mode mode =
    if bit_and mode 0xF000 == 0x8000 then 1 else
    (if bit_and mode 0xF000 == 0x4000 then 2 else
    (if bit_and mode 0xF000 == 0x2000 then 3 else
    (if bit_and mode 0xF000 == 0x6000 then 4 else
    (if bit_and mode 0xF000 == 0x1000 then 5 else
    (if bit_and mode 0xF000 == 0xC000 then 6 else
    (if bit_and mode 0xF000 == 0xA000 then 7 else 0))))))

-- the size of a directory, and the bytes that a regular file's or a symbolic link's data takes
abbrev pub size_postings : ℕ → InodeItem → List Posting
size_postings tree item =
    if type_of_mode item.mode == 2 then to (inode tree item.key.objectid) DIR_SIZE item.size ∷ [] else
    (if type_of_mode item.mode == 1 || type_of_mode item.mode == 7
    then to (inode tree item.key.objectid) FILE_BYTES item.nbytes ∷ [] else [])

-- an inode's item
abbrev pub inode_item_postings : ℕ → InodeItem → List Posting
inode_item_postings tree item =
    to (inode tree item.key.objectid) INODE_ITEMS 1
    ∷ to (inode tree item.key.objectid) INODE_LINKS item.nlink
    ∷ size_postings tree item
    ++ to (inode_type tree item.key.objectid (type_of_mode item.mode)) TYPE_ITEMS 1
    ∷ []

-- a name of an inode
abbrev pub inode_name_postings : ℕ → ℕ → NameFields → List Posting
inode_name_postings tree ino name = to (inode tree ino) INODE_OTHERS 1 ∷ to (inode tree ino) INODE_NAMES 1 ∷ []

-- what a directory's entry leads to, where that is an inode of the same tree
abbrev pub target_postings : ℕ → EntryFields → List Posting
target_postings tree entry =
    if entry.location.kind == INODE_ITEM then
    to (inode tree entry.location.objectid) INODE_OTHERS 1
    ∷ to (inode_type tree entry.location.objectid entry.sort) TYPE_ENTRIES 1
    ∷ []
    else []

-- an entry of a directory says of the directory that it is there, and how long the name is
abbrev pub own_entry_postings : ℕ → ℕ → EntryFields → List Posting
own_entry_postings tree dir entry = to (inode tree dir) INODE_OTHERS 1 ∷ to (inode tree dir) DIR_NAMES (length entry.name) ∷ []

-- an entry of a directory: of the directory, and of what it leads to
abbrev pub inode_entry_postings : ℕ → ℕ → EntryFields → List Posting
inode_entry_postings tree dir entry = own_entry_postings tree dir entry ++ target_postings tree entry

-- the bytes of a file's data that a range of it takes: of an inline one its data, of a hole none
abbrev pub data_postings : ℕ → FileExtent → List Posting
data_postings tree range =
    if range.sort == INLINE then to (inode tree range.key.objectid) FILE_RANGES range.ram_bytes ∷ [] else
    (if range.extent == 0 then [] else to (inode tree range.key.objectid) FILE_RANGES range.length ∷ [])

-- what a record of a tree posts to A9 and A10
unfoldable pub inode_postings : ℕ → Part → List Posting
inode_postings tree (InodePart item) = inode_item_postings tree item
inode_postings tree (NamesPart item) = flat_map (inode_name_postings tree item.key.objectid) item.names
inode_postings tree (XattrPart item) = to (inode tree item.key.objectid) INODE_OTHERS 1 ∷ []
inode_postings tree (OrphanPart item) = to (inode tree item.key.offset) INODE_ORPHANS 1 ∷ []
inode_postings tree (EntriesPart item) = flat_map (inode_entry_postings tree item.key.objectid) item.entries
inode_postings tree (FileExtentPart range) = to (inode tree range.key.objectid) INODE_OTHERS 1 ∷ data_postings tree range
inode_postings tree other = []

-- What a record says of names in directories and of subvolumes: the accounts A11 to A14 and A17.
use Rattle.std.specs.Prelude.{ℕ, Bool, ◌&&◌, ◌==◌, nat_le, List, [], ◌∷◌, flat_map, if◌then◌else◌}
use Rattle.verdict.specs.declared.key.Key.{Key}
use Rattle.recon_crc.specs.Checksum.{name_hash_of}
use Rattle.volume_items.specs.declared.root.RootItem.{RootItem}
use Rattle.volume_items.specs.RootLinkRow.{RootLinkFields}
use Rattle.fs_items.specs.InodeRefRow.{NameFields, InodeRefFields}
use Rattle.fs_items.specs.DirRow.{EntryFields}
use Rattle.accounts.specs.declared.postings.Posting.{Posting}
use Rattle.accounts.specs.Kinds.{name_entry, link, subvolume_entry, subvolume_pair, subvolume}
use Rattle.accounts.specs.declared.kinds.TheConstants.{ENTRIES_BY_HASH, ENTRIES_BY_INDEX, LINK_ENTRIES, LINK_NAMES, SUBVOLUME_REFS, SUBVOLUME_ENTRIES, FROM_PARENT, FROM_CHILD, ROOT_REFS_SAID, ROOT_REFS_FOUND}
use Rattle.records.specs.Part.{Part}
use Rattle.records.specs.Part.Part.{RootPart, LinkPart, NamesPart, EntriesPart}
use Rattle.verdict.specs.declared.kinds.TheConstants.{INODE_ITEM, INODE_REF, DIR_ITEM, ROOT_ITEM, ROOT_REF}
use Rattle.accounts.specs.Lent.{to}

-- the key (256, 12, 256): the names of a tree's root directory, which no directory of the tree has
abbrev pub is_root_name : Key → Bool
is_root_name key = key.objectid == 256 && (key.kind == INODE_REF && key.offset == 256)

-- a name of an inode
abbrev pub link_postings : ℕ → ℕ → NameFields → List Posting
link_postings tree ino name = to (link tree ino name.parent name.index name.name) LINK_NAMES 1 ∷ []

-- the name of a directory's entry as the account has it
abbrev pub entry_posting : ℕ → ℕ → ℕ → EntryFields → Posting
entry_posting tree dir field entry =
    to (name_entry tree dir (name_hash_of entry.name) entry.location entry.name entry.sort) field 1

-- an entry by its hash
abbrev pub hashed_postings : ℕ → ℕ → EntryFields → List Posting
hashed_postings tree dir entry = entry_posting tree dir ENTRIES_BY_HASH entry ∷ []

-- an entry by its index, which says besides whose name it is: of an inode of the same tree, or of a subvolume
abbrev pub indexed_postings : ℕ → ℕ → ℕ → EntryFields → List Posting
indexed_postings tree dir index entry =
    entry_posting tree dir ENTRIES_BY_INDEX entry
    ∷ (if entry.location.kind == INODE_ITEM
    then to (link tree entry.location.objectid dir index entry.name) LINK_ENTRIES 1 ∷ [] else
    (if entry.location.kind == ROOT_ITEM
    then to (subvolume_entry tree entry.location.objectid dir index entry.name) SUBVOLUME_ENTRIES 1 ∷ [] else []))

-- an entry of a directory, by the item's kind
abbrev pub dir_entry_postings : ℕ → Key → EntryFields → List Posting
dir_entry_postings tree key entry =
    if key.kind == DIR_ITEM then hashed_postings tree key.objectid entry else indexed_postings tree key.objectid key.offset entry

-- whether a tree's id is that of a subvolume: 256 to 2^64 - 256
abbrev pub is_subvolume_id : ℕ → Bool
is_subvolume_id id = nat_le 256 id && nat_le id 18446744073709551360

-- the root item of a subvolume
abbrev pub root_postings : RootItem → List Posting
root_postings item = if is_subvolume_id item.key.objectid then to (subvolume item.key.objectid) ROOT_REFS_SAID item.refs ∷ [] else []

-- the name of a subvolume: of kind 156 the key is (parent, 156, child), of kind 144 (child, 144, parent)
abbrev pub root_link_postings : RootLinkFields → List Posting
root_link_postings item =
    if item.key.kind == ROOT_REF then
    to (subvolume_entry item.key.objectid item.key.offset item.dirid item.sequence item.name) SUBVOLUME_REFS 1
    ∷ to (subvolume_pair item.key.objectid item.key.offset item.dirid item.sequence item.name) FROM_PARENT 1
    ∷ to (subvolume item.key.offset) ROOT_REFS_FOUND 1
    ∷ []
    else to (subvolume_pair item.key.offset item.key.objectid item.dirid item.sequence item.name) FROM_CHILD 1 ∷ []

-- the names of an inode, those of a root directory excepted
abbrev pub names_postings : ℕ → InodeRefFields → List Posting
names_postings tree item =
    if is_root_name item.key then [] else flat_map (link_postings tree item.key.objectid) item.names

-- what a record of a tree posts to A11, A12, A13, A14 and A17
unfoldable pub dir_postings : ℕ → Part → List Posting
dir_postings tree (NamesPart item) = names_postings tree item
dir_postings tree (EntriesPart item) = flat_map (dir_entry_postings tree item.key) item.entries
dir_postings tree (RootPart item) = root_postings item
dir_postings tree (LinkPart item) = root_link_postings item
dir_postings tree other = []

-- What the readers lend, as plain values.
use Rattle.std.specs.Prelude.{List}
use Rattle.fs_items.specs.InodeRefRow.{NameFields, InodeRefFields, names_from}
use Rattle.fs_items.specs.DirRow.{EntryFields, DirFields, entries_from}
use Rattle.fs_items.specs.SumsRow.{SumFields}
use Rattle.fs_items.specs.declared.inode_ref.InodeRef.{InodeRef}
use Rattle.fs_items.specs.declared.inode_ref.Names.{Names}
use Rattle.fs_items.specs.declared.inode_ref.NameAt.{NameAt}
use Rattle.fs_items.specs.declared.dir.DirItem.{DirItem}
use Rattle.fs_items.specs.declared.dir.DirEntries.{DirEntries}
use Rattle.fs_items.specs.declared.dir.DirEntry.{DirEntry}
use Rattle.fs_items.specs.declared.sums.SumRun.{SumRun}

-- a name that is lent
abbrev pub name_fields : NameAt → NameFields
name_fields name = record { parent = name.parent; index = name.index; name = name.name.now }

-- the names that an iterator has left
abbrev pub names_left : Names → List NameFields
names_left names = names_from names.key names.bytes.now names.place

-- the fields of the names of a file that were read
abbrev pub inode_ref_in : InodeRef → InodeRefFields
inode_ref_in item = record { key = item.key; names = names_from item.key item.bytes.now 0 }

-- a directory entry that is lent
abbrev pub entry_fields : DirEntry → EntryFields
entry_fields entry = record { location = entry.location; sort = entry.sort; name = entry.name.now }

-- the directory entries that an iterator has left
abbrev pub entries_left : DirEntries → List EntryFields
entries_left entries = entries_from entries.bytes.now entries.place

-- the fields of directory entries that were read
abbrev pub dir_in : DirItem → DirFields
dir_in item = record { key = item.key; entries = entries_from item.bytes.now 0 }

-- the fields of checksums that were read
abbrev pub sums_in : SumRun → SumFields
sums_in run = record { key = run.key; sums = run.sums.now }

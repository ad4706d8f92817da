-- The sums of names in directories and of links that are kept apart, with the entries that lead to inodes: what slots come to.
use Rattle.std.specs.Prelude.{ℕ, ◌+◌, List, [], ◌∷◌, ◌++◌, take}
use Rattle.std.specs.List.{flat_map}
use Rattle.verdict.specs.declared.key.Key.{Key}
use Rattle.verdict.specs.declared.kinds.TheConstants.{INODE_ITEM}
use Rattle.fs_items.specs.DirRow.{EntryFields}
use Rattle.recon_crc.specs.Checksum.{name_hash_of}
use Rattle.accounts.specs.declared.account.Account.{Account}
use Rattle.accounts.specs.declared.postings.Posting.{Posting}
use Rattle.accounts.specs.Kinds.{inode, inode_type, key_by, link, name_entry}
use Rattle.accounts.specs.declared.kinds.TheConstants.{INODE_OTHERS, TYPE_ENTRIES, ENTRIES_BY_HASH, ENTRIES_BY_INDEX, LINK_ENTRIES, LINK_NAMES}
use Rattle.accounts.specs.Sums.{total_of}
use Rattle.accounts.specs.Tally.{Sums}
use Rattle.inode_tally.specs.Held.{inodes_apart}
use Rattle.inode_tally.specs.declared.tally.InodeTally.{InodeTally}
use Rattle.records.specs.DirPostings.{dir_entry_postings}
use Rattle.records.specs.InodePostings.{target_postings}
use Rattle.name_tally.specs.declared.slot.NameSlot.{NameSlot}
use Rattle.name_tally.specs.declared.tally.NameTally.{NameTally}
use Rattle.accounts.specs.Lent.{to}

-- the bytes of a slot's name
abbrev pub name_of : NameSlot → List ℕ
name_of slot = take slot.size slot.name

-- the name in a directory that a slot is of, and the link
abbrev pub entry_of : NameSlot → Account
entry_of slot = name_entry slot.tree slot.dir (name_hash_of (name_of slot)) (key_by slot.ino INODE_ITEM 0) (name_of slot) slot.sort

abbrev pub link_of : NameSlot → Account
link_of slot = link slot.tree slot.ino slot.dir slot.index (name_of slot)

-- so many entries lead to an inode and say its type
abbrev pub leads : ℕ → ℕ → ℕ → ℕ → List Posting
leads tree ino sort count = to (inode tree ino) INODE_OTHERS count ∷ to (inode_type tree ino sort) TYPE_ENTRIES count ∷ []

-- the postings that a slot comes to
unfoldable pub slot_postings : NameSlot → List Posting
slot_postings slot =
    to (entry_of slot) ENTRIES_BY_HASH slot.hashed
    ∷ to (entry_of slot) ENTRIES_BY_INDEX slot.indexed
    ∷ to (link_of slot) LINK_ENTRIES slot.listed
    ∷ to (link_of slot) LINK_NAMES slot.linked
    ∷ leads slot.tree slot.ino slot.sort slot.led

-- what slots come to
abbrev pub slots_sums : List NameSlot → Sums
slots_sums slots = total_of (flat_map slot_postings slots)

-- what is kept apart
abbrev pub names_apart : NameTally → Sums
names_apart tally = slots_sums tally.slots.items

-- what is kept apart of names and of inodes
abbrev pub both : NameTally → InodeTally → Sums
both names inodes account field = names_apart names account field + inodes_apart inodes account field

-- what an entry of a directory of a tree posts to names and to the inode that it leads to
abbrev pub entry_row : ℕ → Key → EntryFields → List Posting
entry_row tree key entry = dir_entry_postings tree key entry ++ target_postings tree entry

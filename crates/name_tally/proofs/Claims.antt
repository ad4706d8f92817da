-- What was given to a slot that is of its name.
use Rattle.std.proofs.Common.{◌≡◌, ◌==◌, ℕ, Bool, cond, List, [], ◌∷◌, ◌++◌, refl, ap, sym, ◌∙◌, subst}
use Rattle.std.proofs.lemmas.Bool.{eq-eqb}
use Rattle.verdict.specs.declared.kinds.TheConstants.{INODE_ITEM, ROOT_ITEM}
use Rattle.recon_crc.specs.Checksum.{name_hash_of}
use Rattle.fs_items.specs.DirRow.{EntryFields}
use Rattle.fs_items.specs.InodeRefRow.{NameFields}
use Rattle.accounts.specs.declared.postings.Posting.{Posting}
use Rattle.accounts.specs.Kinds.{key_by, link, name_entry, subvolume_entry}
use Rattle.accounts.specs.Tally.{Sums}
use Rattle.records.specs.DirPostings.{entry_posting, hashed_postings, indexed_postings, link_postings}
use Rattle.records.specs.InodePostings.{target_postings}
use Rattle.name_tally.specs.declared.slot.NameSlot.{NameSlot}
use Rattle.name_tally.specs.Names.{entry_of, leads, link_of, name_of}
use Rattle.name_tally.specs.Slots.{AreSame, IsAt, KeepsUp}
use Rattle.name_tally.proofs.Sums.{keeps_none, keeps_same}
use Rattle.accounts.specs.Lent.{to}

pub keeps_nothing : (sums : Sums) → KeepsUp sums sums []
keeps_nothing sums = keeps_none sums sums (λ a n. refl)

pub keeps_as : (old mid new : Sums) (done : Bool) (given other : List Posting) → AreSame old mid → given ≡ other
    → KeepsUp mid new (cond done given []) → KeepsUp old new (cond done other [])
keeps_as old mid new done given other same is keeps =
    keeps_same old mid new (cond done other []) same (subst (λ g. KeepsUp mid new (cond done g [])) is keeps)

pub at_then : (old new : NameSlot) (tree ino dir : ℕ) (name : List ℕ) → IsAt old tree ino dir name
    → IsAt new old.tree old.ino old.dir (name_of old) → IsAt new tree ino dir name
at_then old new tree ino dir name was is =
    record { tree = is.tree ∙ was.tree; ino = is.ino ∙ was.ino; dir = is.dir ∙ was.dir; name = is.name ∙ was.name }

entry_is : (slot : NameSlot) (tree dir : ℕ) (entry : EntryFields) → IsAt slot tree entry.location.objectid dir entry.name
    → slot.sort ≡ entry.sort
    → entry.location.kind ≡ INODE_ITEM
    → entry_of slot ≡ name_entry tree dir (name_hash_of entry.name) entry.location entry.name entry.sort
entry_is slot tree dir entry is sort kind =
    λ i. name_entry (is.tree i) (is.dir i) (name_hash_of (is.name i)) (key_by (is.ino i) (sym kind i) 0) (is.name i) (sort i)

-- the entry leads to the inode of the slot
led_is : (slot : NameSlot) (tree dir : ℕ) (entry : EntryFields) → IsAt slot tree entry.location.objectid dir entry.name
    → slot.sort ≡ entry.sort
    → entry.location.kind ≡ INODE_ITEM → leads slot.tree slot.ino slot.sort 1 ≡ target_postings tree entry
led_is slot tree dir entry is sort kind =
    (λ i. leads (is.tree i) (is.ino i) (sort i) 1)
    ∙ ap (λ b. cond b (leads tree entry.location.objectid entry.sort 1) []) (sym (eq-eqb entry.location.kind INODE_ITEM kind))

pub hashed_is : (slot : NameSlot) (tree dir : ℕ) (entry : EntryFields) → IsAt slot tree entry.location.objectid dir entry.name
    → slot.sort ≡ entry.sort
    → entry.location.kind ≡ INODE_ITEM
    → ◌≡◌ {A = List Posting} (to (entry_of slot) 0 1 ∷ leads slot.tree slot.ino slot.sort 1)
    (hashed_postings tree dir entry ++ target_postings tree entry)
hashed_is slot tree dir entry is sort kind =
    λ i. to (entry_is slot tree dir entry is sort kind i) 0 1 ∷ led_is slot tree dir entry is sort kind i

link_is : (slot : NameSlot) (tree ino dir index : ℕ) (name : List ℕ) → IsAt slot tree ino dir name → slot.index ≡ index
    → link_of slot ≡ link tree ino dir index name
link_is slot tree ino dir index name is at = λ i. link (is.tree i) (is.ino i) (is.dir i) (at i) (is.name i)

pub linked_is : (slot : NameSlot) (tree ino : ℕ) (name : NameFields) → IsAt slot tree ino name.parent name.name → slot.index ≡ name.index
    → ◌≡◌ {A = List Posting} (to (link_of slot) 1 1 ∷ []) (link_postings tree ino name)
linked_is slot tree ino name is at = ap (λ a. to a 1 1 ∷ []) (link_is slot tree ino name.parent name.index name.name is at)

only_indexed : (slot : NameSlot) (tree dir index : ℕ) (entry : EntryFields) → IsAt slot tree entry.location.objectid dir entry.name
    → slot.sort ≡ entry.sort → slot.index ≡ index
    → entry.location.kind ≡ INODE_ITEM
    → ◌≡◌ {A = List Posting} (to (entry_of slot) 1 1 ∷ to (link_of slot) 0 1 ∷ []) (indexed_postings tree dir index entry)
only_indexed slot tree dir index entry is sort at kind =
    (λ i. to (entry_is slot tree dir entry is sort kind i) 1 1 ∷ to
    (link_is slot tree entry.location.objectid dir index entry.name is at i) 0 1 ∷ [])
    ∙ ap (λ b. entry_posting tree dir 1 entry ∷ cond b (to (link tree entry.location.objectid dir index entry.name) 0 1 ∷ [])
    (cond (entry.location.kind == ROOT_ITEM) (to (subvolume_entry tree entry.location.objectid dir index entry.name) 1 1 ∷ []) []))
    (sym (eq-eqb entry.location.kind INODE_ITEM kind))

pub indexed_is : (slot : NameSlot) (tree dir index : ℕ) (entry : EntryFields) → IsAt slot tree entry.location.objectid dir entry.name
    → slot.sort ≡ entry.sort → slot.index ≡ index
    → entry.location.kind ≡ INODE_ITEM
    → ◌≡◌ {A = List Posting} (to (entry_of slot) 1 1 ∷ to (link_of slot) 0 1 ∷ leads slot.tree slot.ino slot.sort 1)
    (indexed_postings tree dir index entry ++ target_postings tree entry)
indexed_is slot tree dir index entry is sort at kind =
    λ i. only_indexed slot tree dir index entry is sort at kind i ++ led_is slot tree dir entry is sort kind i

-- The accounts, a kind each, in the order of their numbers, and the rules on their sums. An account without a tail has the empty one.
use Rattle.std.specs.Prelude.{ℕ, Bool, true, false, not, ◌&&◌, ◌||◌, ◌==◌, nat_le, nat_lt, List, [], ◌∷◌, ◌++◌, if◌then◌else◌}
use Rattle.verdict.specs.declared.key.Key.{Key}
use Rattle.verdict.specs.Rules.{no_key}
use Rattle.accounts.specs.declared.account.Account.{Account}
use Rattle.accounts.specs.declared.context.Home.{Home}
use Rattle.accounts.specs.declared.kinds.TheConstants.{BLOCK_REF, DATA_REF, EXTENT, EXTENT_FORM, SECTOR, GROUP, GROUP_CLASS, OUTSIDE, INODE, INODE_TYPE, NAME_ENTRY, LINK, SUBVOLUME_ENTRY, SUBVOLUME_PAIR, STRIPE, BYTES_USED, SUBVOLUME, DEVICE, EXTENT_ITEMS, EXTENT_REFS_SAID, EXTENT_REFS_FOUND, FORM_ITEMS, FORM_USES, SECTOR_EXTENTS, SECTOR_DATA, SECTOR_SUMS, SECTOR_SHOWN, GROUP_ITEMS, GROUP_CHUNKS, GROUP_USED, GROUP_TAKEN, OTHER_CLASS, OUTSIDE_CHUNKS, INODE_ITEMS, INODE_OTHERS, INODE_LINKS, INODE_NAMES, INODE_ORPHANS, DIR_SIZE, DIR_NAMES, FILE_BYTES, FILE_RANGES, TYPE_ENTRIES, TYPE_ITEMS, SUBVOLUME_REFS, SUBVOLUME_ENTRIES}
use Rattle.verdict.specs.declared.kinds.TheConstants.{INODE_ITEM, INODE_REF, DIR_ITEM, ROOT_ITEM, ROOT_BACKREF, ROOT_REF, TREE_BLOCK_REF, EXTENT_DATA_REF, SHARED_BLOCK_REF, SHARED_DATA_REF, BLOCK_GROUP_ITEM, DEV_EXTENT, DEV_ITEM}
use Rattle.verdict.specs.declared.trees.TheConstants.{EXTENT_TREE, DEV_TREE, ROOT_TREE, CHUNK_TREE}

abbrev pub key_by : ℕ → ℕ → ℕ → Key
key_by objectid kind offset = record { objectid = objectid; kind = kind; offset = offset }

abbrev pub named : ℕ → ℕ → ℕ → Key → ℕ → List ℕ → Account
named kind tree block key detail tail = record { kind = kind; tree = tree; block = block; key = key; detail = detail; tail = tail }

abbrev pub plain : ℕ → ℕ → ℕ → Key → ℕ → Account
plain kind tree block key detail = named kind tree block key detail []

-- A1: a tree whose root has this id refers to a tree block; or a block does, by its address
abbrev pub block_ref : ℕ → ℕ → Account
block_ref root address = plain BLOCK_REF root address (key_by address TREE_BLOCK_REF root) 0

abbrev pub shared_block_ref : ℕ → ℕ → Account
shared_block_ref parent address = plain BLOCK_REF 0 address (key_by address SHARED_BLOCK_REF parent) 0

-- A2: an inode of a tree refers to an extent, whose first byte would be this byte of the file; or a leaf does, by its address
abbrev pub data_ref : ℕ → ℕ → ℕ → ℕ → Account
data_ref root address ino origin = plain DATA_REF root address (key_by ino EXTENT_DATA_REF origin) 0

abbrev pub shared_data_ref : ℕ → ℕ → Account
shared_data_ref parent address = plain DATA_REF 0 address (key_by parent SHARED_DATA_REF 0) 0

-- A3: an extent
abbrev pub extent : ℕ → Account
extent address = plain EXTENT EXTENT_TREE address no_key 0

-- A4: an extent's kind with its length (168) or its level (169)
abbrev pub extent_form : ℕ → ℕ → ℕ → Account
extent_form address kind form = plain EXTENT_FORM EXTENT_TREE address (key_by 0 kind form) 0

-- A5: a sector, 4096 bytes
abbrev pub sector : ℕ → Account
sector address = plain SECTOR 0 address no_key 0

-- A6: a block group and its chunk
abbrev pub group : ℕ → ℕ → ℕ → Account
group start len class = plain GROUP 0 0 (key_by start BLOCK_GROUP_ITEM len) class

-- A7: an extent in a group of another class
abbrev pub group_class : ℕ → Account
group_class address = plain GROUP_CLASS EXTENT_TREE address no_key 0

-- A8: an extent outside every chunk
abbrev pub outside : ℕ → Account
outside address = plain OUTSIDE EXTENT_TREE address no_key 0

-- A9: an inode
abbrev pub inode : ℕ → ℕ → Account
inode tree ino = plain INODE tree 0 (key_by ino INODE_ITEM 0) 0

-- A10: the type of an inode
abbrev pub inode_type : ℕ → ℕ → ℕ → Account
inode_type tree ino sort = plain INODE_TYPE tree 0 (key_by ino INODE_ITEM 0) sort

-- A11: a name in a directory, by its hash and by its index: what it leads to, and of which type
abbrev pub name_entry : ℕ → ℕ → ℕ → Key → List ℕ → ℕ → Account
name_entry tree dir hash location name sort =
    named NAME_ENTRY tree 0 (key_by dir DIR_ITEM hash) location.objectid (name ++ sort ∷ location.kind ∷ [])

-- A12: a name of an inode, from the directory and from the inode
abbrev pub link : ℕ → ℕ → ℕ → ℕ → List ℕ → Account
link tree ino dir index name = named LINK tree 0 (key_by ino INODE_REF dir) index name

-- A13: a subvolume's name, from the root tree and from the directory of its parent
abbrev pub subvolume_entry : ℕ → ℕ → ℕ → ℕ → List ℕ → Account
subvolume_entry parent child dir index name = named SUBVOLUME_ENTRY parent 0 (key_by child ROOT_REF dir) index name

-- A14: a subvolume's name, from its parent and from itself
abbrev pub subvolume_pair : ℕ → ℕ → ℕ → ℕ → List ℕ → Account
subvolume_pair parent child dir index name = named SUBVOLUME_PAIR parent 0 (key_by child ROOT_BACKREF dir) index name

-- A15: a stripe of a chunk, and its range of the device
abbrev pub stripe : ℕ → ℕ → ℕ → ℕ → Account
stripe start devid physical len = plain STRIPE DEV_TREE start (key_by devid DEV_EXTENT physical) len

-- A16: the bytes that all groups use
abbrev pub bytes_used : Account
bytes_used = plain BYTES_USED 0 0 no_key 0

-- A17: the references to a subvolume
abbrev pub subvolume : ℕ → Account
subvolume id = plain SUBVOLUME ROOT_TREE 0 (key_by id ROOT_ITEM 0) 0

-- A18: the bytes of a device that its ranges take
abbrev pub device : ℕ → Account
device devid = plain DEVICE CHUNK_TREE 0 (key_by 1 DEV_ITEM devid) 0

-- the group of a home
abbrev pub group_of : Home → Account
group_of home = group home.start home.length home.class

-- ---- the rules on their sums. Here f 0 to f 8 are the sums.

-- where the first holds, so does the second
abbrev pub gives : Bool → Bool → Bool
gives first second = not first || second

-- A3, an extent: at most one item; with one, as many references as it says, and at least one; without, no reference
abbrev pub extent_keeps : (ℕ → ℕ) → Bool
extent_keeps f =
    nat_le (f EXTENT_ITEMS) 1
    && (gives (f EXTENT_ITEMS == 1) (f EXTENT_REFS_SAID == f EXTENT_REFS_FOUND && nat_le 1 (f EXTENT_REFS_SAID))
    && gives (f EXTENT_ITEMS == 0) (f EXTENT_REFS_FOUND == 0))

-- A5, a sector: of one extent at most; summed once at most, and then data; shown by a file whose data has sums, it is summed
abbrev pub sector_keeps : (ℕ → ℕ) → Bool
sector_keeps f =
    nat_le (f SECTOR_EXTENTS) 1
    && (nat_le (f SECTOR_SUMS) 1
    && (gives (f SECTOR_SUMS == 1) (f SECTOR_DATA == 1) && gives (nat_lt 0 (f SECTOR_SHOWN)) (f SECTOR_SUMS == 1)))

-- A6, a block group: its item and its chunk, each once, and what it uses is what its extents take
abbrev pub group_keeps : (ℕ → ℕ) → Bool
group_keeps f = f GROUP_ITEMS == f GROUP_CHUNKS && (nat_le (f GROUP_ITEMS) 1 && f GROUP_USED == f GROUP_TAKEN)

-- A9, an inode: its item, where anything is of it; as many names as it has links, and without a link an orphan; a directory's size;
-- the bytes of its data
abbrev pub inode_keeps : (ℕ → ℕ) → Bool
inode_keeps f =
    gives (nat_lt 0 (f INODE_OTHERS)) (f INODE_ITEMS == 1)
    && (f INODE_LINKS == f INODE_NAMES
    && (gives (f INODE_ITEMS == 1 && f INODE_LINKS == 0) (nat_lt 0 (f INODE_ORPHANS))
    && (f DIR_SIZE == f DIR_NAMES && f FILE_BYTES == f FILE_RANGES)))

-- a rule on the sums of an account: that the first two are equal, so that their difference alone decides; or one of its own
pub data SumRule : Type 0 where
  Balance : SumRule
  Own : ((ℕ → ℕ) → Bool) → SumRule

-- whether sums keep a rule
abbrev pub keeps : SumRule → (ℕ → ℕ) → Bool
keeps Balance f = f 0 == f 1
keeps (Own rule) f = rule f

abbrev pub is_balance : SumRule → Bool
is_balance Balance = true
is_balance (Own rule) = false

-- a line of the table: a kind, and the rule on its sums
pub record Line : Type 0 where
  pub kind : ℕ
  pub rule : SumRule

abbrev pub line : ℕ → SumRule → Line
line kind rule = record { kind = kind; rule = rule }

-- the table: A1 tree block reference and A2 file extent reference, each as often said as there; A3 extent, A4 length and class, A5 sector,
-- A6 block group, A7 class of a group, A8 outside every chunk, A9 inode, A10 type of an inode; A11 name, by hash and by index; A12 link, from
-- both sides; A13 entry of a subvolume; A14 names of a subvolume, from both sides; A15 stripe, of the chunk and of the device; A16 bytes used,
-- A17 references of a subvolume and A18 bytes of the device, each as said and as there
abbrev pub table : List Line
table =
    line BLOCK_REF Balance
    ∷ line DATA_REF Balance
    ∷ line EXTENT (Own extent_keeps)
    ∷ line EXTENT_FORM (Own (λ f. gives (nat_lt 0 (f FORM_USES)) (nat_le 1 (f FORM_ITEMS))))
    ∷ line SECTOR (Own sector_keeps)
    ∷ line GROUP (Own group_keeps)
    ∷ line GROUP_CLASS (Own (λ f. f OTHER_CLASS == 0))
    ∷ line OUTSIDE (Own (λ f. f OUTSIDE_CHUNKS == 0))
    ∷ line INODE (Own inode_keeps)
    ∷ line INODE_TYPE (Own (λ f. gives (nat_lt 0 (f TYPE_ENTRIES)) (f TYPE_ITEMS == 1)))
    ∷ line NAME_ENTRY Balance
    ∷ line LINK Balance
    ∷ line SUBVOLUME_ENTRY (Own (λ f. nat_le (f SUBVOLUME_REFS) (f SUBVOLUME_ENTRIES)))
    ∷ line SUBVOLUME_PAIR Balance
    ∷ line STRIPE Balance
    ∷ line BYTES_USED Balance
    ∷ line SUBVOLUME Balance
    ∷ line DEVICE Balance
    ∷ []

-- whether sums keep the rule on a kind; a kind without a line has no rule
abbrev pub keeps_at : ℕ → List Line → (ℕ → ℕ) → Bool
keeps_at kind [] f = true
keeps_at kind (l ∷ ls) f = if kind == l.kind then keeps l.rule f else keeps_at kind ls f

-- whether the rule on a kind is that its first two sums are equal
abbrev pub balances_at : ℕ → List Line → Bool
balances_at kind [] = false
balances_at kind (l ∷ ls) = if kind == l.kind then is_balance l.rule else balances_at kind ls

abbrev pub balances : ℕ → Bool
balances kind = balances_at kind table

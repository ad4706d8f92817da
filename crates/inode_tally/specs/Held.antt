-- The sums of inodes and of their types, kept apart in a form of their own.
use Rattle.std.specs.Prelude.{ℕ, ◌+◌, ◌-◌, Bool, ◌||◌, ◌==◌, nat_lt, List, [], ◌∷◌, Option, Some, None}
use Rattle.std.specs.Prelude.{replicate, slice_index, if◌then◌else◌}
use Rattle.std.specs.Ordering.{nat_cmp, on, then_cmp}
use Rattle.std.specs.declared.cmp.Ordering.{Ordering}
use Rattle.std.specs.BTreeMap.{get}
use Rattle.accounts.specs.declared.account.Account.{Account}
use Rattle.accounts.specs.declared.postings.Posting.{Posting}
use Rattle.accounts.specs.Kinds.{inode, inode_type}
use Rattle.accounts.specs.declared.kinds.TheConstants.{INODE, INODE_TYPE, INODE_ITEMS, INODE_OTHERS, INODE_LINKS, INODE_NAMES, INODE_ORPHANS, DIR_SIZE, DIR_NAMES, FILE_BYTES, FILE_RANGES, TYPE_ENTRIES, TYPE_ITEMS}
use Rattle.accounts.specs.Sums.{total_of}
use Rattle.accounts.specs.Tally.{Sums}
use Rattle.inode_tally.specs.declared.class.Gathered.{Gathered}
use Rattle.inode_tally.specs.declared.class.InodeClass.{InodeClass}
use Rattle.inode_tally.specs.declared.tally.Own.{Own}
use Rattle.inode_tally.specs.declared.tally.InodeTally.{InodeTally}

-- an amount to one sum of an account
abbrev pub to : Account → ℕ → ℕ → Posting
to account field amount = record { account = account; field = field; amount = amount }

-- one of the nine sums of an inode
abbrev pub sum_of : Gathered → ℕ → ℕ
sum_of more n = if nat_lt n 5 then slice_index more.counts n else slice_index more.bytes (n - 5)

-- amounts to an inode and to one of its types, as postings
abbrev pub gathered_postings : ℕ → ℕ → Gathered → List Posting
gathered_postings tree ino more =
    to (inode tree ino) INODE_ITEMS (sum_of more INODE_ITEMS)
    ∷ to (inode tree ino) INODE_OTHERS (sum_of more INODE_OTHERS)
    ∷ to (inode tree ino) INODE_LINKS (sum_of more INODE_LINKS)
    ∷ to (inode tree ino) INODE_NAMES (sum_of more INODE_NAMES)
    ∷ to (inode tree ino) INODE_ORPHANS (sum_of more INODE_ORPHANS)
    ∷ to (inode tree ino) DIR_SIZE (sum_of more DIR_SIZE)
    ∷ to (inode tree ino) DIR_NAMES (sum_of more DIR_NAMES)
    ∷ to (inode tree ino) FILE_BYTES (sum_of more FILE_BYTES)
    ∷ to (inode tree ino) FILE_RANGES (sum_of more FILE_RANGES)
    ∷ to (inode_type tree ino more.sort) TYPE_ENTRIES more.entries
    ∷ to (inode_type tree ino more.sort) TYPE_ITEMS more.typed
    ∷ []

-- no amount
abbrev pub no_sums_of : Gathered
no_sums_of = record { bytes = replicate 4 0; counts = replicate 5 0; entries = 0; typed = 0; sort = 0 }

-- nothing is of an inode
abbrev pub no_class : InodeClass
no_class = record { items = 0; others = 0; linked = 0; orphans = 0; sort = 0; entries = 0; typed = 0 }

-- the least amounts of a class
abbrev pub widened : InodeClass → Gathered
widened class = record {
  bytes = 0 ∷ 0 ∷ 0 ∷ 0 ∷ [];
  counts = class.items ∷ class.others ∷ class.linked ∷ class.linked ∷ class.orphans ∷ [];
  entries = class.entries;
  typed = class.typed;
  sort = class.sort;
}

-- the class of an entry, where there is one
abbrev pub class_in : Option InodeClass → InodeClass
class_in None = no_class
class_in (Some class) = class

-- the postings that a class of an inode comes to
abbrev pub class_postings : ℕ × ℕ → InodeClass → List Posting
class_postings at class = gathered_postings at.0 at.1 (widened class)

-- inodes by the ids of their trees, then by their numbers
abbrev pub inode_cmp : ℕ × ℕ → ℕ × ℕ → Ordering
inode_cmp = then_cmp (on (λ at. at.0) nat_cmp) (on (λ at. at.1) nat_cmp)

-- the inode that an account of one is of
abbrev pub inode_of : Account → ℕ × ℕ
inode_of account = (account.tree, account.key.objectid)

-- what the class of its inode comes to in an account
abbrev pub class_sums : (ℕ × ℕ → Option InodeClass) → Account → ℕ → ℕ
class_sums entry account field = total_of (class_postings (inode_of account) (class_in (entry (inode_of account)))) account field

-- what is gathered of an inode
abbrev pub own_sums : Own → Sums
own_sums own account field = total_of (gathered_postings own.tree own.ino own.sums) account field

-- what is gathered of some inodes
abbrev pub owns_sums : List Own → Sums
owns_sums [] account field = 0
owns_sums (own ∷ owns) account field = own_sums own account field + owns_sums owns account field

-- the sums that are kept apart
abbrev pub inodes_apart : InodeTally → Sums
inodes_apart tally account field = class_sums (get inode_cmp tally.classes) account field + owns_sums tally.owns.items account field

-- whether accounts of a kind are of inodes or of their types
abbrev pub is_of_inodes : ℕ → Bool
is_of_inodes kind = kind == INODE || kind == INODE_TYPE

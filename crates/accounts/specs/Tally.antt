-- What a tally keeps of the sums of accounts.
use Rattle.std.specs.Prelude.{ℕ, ◌+◌, ◌-◌, min, Bool, true, false, ◌||◌, ◌==◌, List, Option, Some, None, if◌then◌else◌}
use Rattle.std.specs.BTreeMap.{get}
use Rattle.accounts.specs.declared.account.Account.{Account}
use Rattle.accounts.specs.declared.kinds.TheConstants.{EXTENT, EXTENT_FORM, INODE, INODE_TYPE, EXTENT_ITEMS, EXTENT_REFS_SAID, EXTENT_REFS_FOUND, FORM_ITEMS, FORM_USES, INODE_ITEMS, INODE_OTHERS, INODE_LINKS, INODE_NAMES, INODE_ORPHANS, DIR_SIZE, DIR_NAMES, FILE_BYTES, FILE_RANGES, TYPE_ENTRIES, TYPE_ITEMS}
use Rattle.accounts.specs.declared.postings.Posting.{Posting}
use Rattle.accounts.specs.declared.totals.Totals.{Totals}
use Rattle.accounts.specs.declared.tally.Tally.{Tally}
use Rattle.accounts.specs.Order.{account_cmp}
use Rattle.accounts.specs.Sums.{sum_in, total_of}
use Rattle.accounts.specs.Kinds.{balances}

-- the sums of accounts, by field
abbrev pub Sums : Type 0
Sums = Account → ℕ → ℕ

-- the difference of the first two sums, in the one that is more; the other, and all others, are zero
abbrev pub difference : (ℕ → ℕ) → ℕ → ℕ
difference f field = if field == 0 then f 0 - f 1 else (if field == 1 then f 1 - f 0 else 0)

-- some sums, or where that decides their difference
abbrev pub difference_if : Bool → (ℕ → ℕ) → ℕ → ℕ
difference_if true f = difference f
difference_if false f = f

-- what is kept of an inode: its items up to two; whether anything else is of it, and whether an orphan item; the differences of its links
-- and its names, with one left of both where it has both; the differences of the others
abbrev pub inode_class : (ℕ → ℕ) → ℕ → ℕ
inode_class f field =
    if field == INODE_ITEMS then min (f INODE_ITEMS) 2 else
    (if field == INODE_OTHERS then min (f INODE_OTHERS) 1 else
    (if field == INODE_LINKS then (f INODE_LINKS - f INODE_NAMES) + min 1 (min (f INODE_LINKS) (f INODE_NAMES)) else
    (if field == INODE_NAMES then (f INODE_NAMES - f INODE_LINKS) + min 1 (min (f INODE_LINKS) (f INODE_NAMES)) else
    (if field == INODE_ORPHANS then min (f INODE_ORPHANS) 1 else
    (if field == DIR_SIZE then f DIR_SIZE - f DIR_NAMES else
    (if field == DIR_NAMES then f DIR_NAMES - f DIR_SIZE else
    (if field == FILE_BYTES then f FILE_BYTES - f FILE_RANGES else
    (if field == FILE_RANGES then f FILE_RANGES - f FILE_BYTES else 0))))))))

-- what is kept of a type of an inode: whether an entry says it, and the items that do up to two
abbrev pub type_class : (ℕ → ℕ) → ℕ → ℕ
type_class f field =
    if field == TYPE_ENTRIES then min (f TYPE_ENTRIES) 1 else (if field == TYPE_ITEMS then min (f TYPE_ITEMS) 2 else 0)

-- what is kept of an extent: its items up to two; the difference of the references that its item says and of those that there are, and
-- whether there are both
abbrev pub extent_class : (ℕ → ℕ) → ℕ → ℕ
extent_class f field =
    if field == EXTENT_ITEMS then min (f EXTENT_ITEMS) 2 else
    (if field == EXTENT_REFS_SAID
    then (f EXTENT_REFS_SAID - f EXTENT_REFS_FOUND) + min 1 (min (f EXTENT_REFS_SAID) (f EXTENT_REFS_FOUND)) else
    (if field == EXTENT_REFS_FOUND
    then (f EXTENT_REFS_FOUND - f EXTENT_REFS_SAID) + min 1 (min (f EXTENT_REFS_SAID) (f EXTENT_REFS_FOUND)) else 0))

-- what is kept of a form of an extent: whether its item has it, and whether who refers to it does
abbrev pub form_class : (ℕ → ℕ) → ℕ → ℕ
form_class f field = if field == FORM_ITEMS then min (f FORM_ITEMS) 1 else (if field == FORM_USES then min (f FORM_USES) 1 else 0)

-- what is kept of the sums of an inode, of a type, of an extent, of a form, or of another account
abbrev pub kept_as : Bool → Bool → Bool → Bool → Bool → (ℕ → ℕ) → ℕ → ℕ
kept_as true is_type is_extent is_form balanced f = inode_class f
kept_as false true is_extent is_form balanced f = type_class f
kept_as false false true is_form balanced f = extent_class f
kept_as false false false true balanced f = form_class f
kept_as false false false false balanced f = difference_if balanced f

-- what is kept of the sums of an account of a kind: no more than what the rule on the kind looks at
unfoldable pub kept : ℕ → (ℕ → ℕ) → ℕ → ℕ
kept kind f = kept_as (kind == INODE) (kind == INODE_TYPE) (kind == EXTENT) (kind == EXTENT_FORM) (balances kind) f

-- some sums, with an amount added to one
abbrev pub with_amount : (ℕ → ℕ) → ℕ → ℕ → ℕ → ℕ
with_amount f field amount n = f n + (if field == n then amount else 0)

-- no sum of any account
abbrev pub no_sums : Sums
no_sums account field = 0

-- what is kept once some postings are added
unfoldable pub with_postings : Sums → List Posting → Sums
with_postings sums postings account = kept account.kind (λ field. sums account field + total_of postings account field)

-- the sums of an account's entry, none where it has no entry
abbrev pub sums_at : Option Totals → ℕ → ℕ
sums_at None field = 0
sums_at (Some totals) field = sum_in totals field

-- what is kept of some entries
unfoldable pub kept_sums : (Account → Option Totals) → Sums
kept_sums entry account = kept account.kind (sums_at (entry account))

-- what a tally keeps
abbrev pub sums_in : Tally → Sums
sums_in tally = kept_sums (get account_cmp tally.entries)

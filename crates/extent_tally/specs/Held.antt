-- What is kept of extents: their sums in a form of their own.
use Rattle.std.specs.Prelude.{ℕ, ◌+◌, Bool, ◌&&◌, ◌==◌, nat_le, List, [], ◌∷◌, if◌then◌else◌}
use Rattle.std.specs.List.{sum_by}
use Rattle.accounts.specs.declared.account.Account.{Account}
use Rattle.accounts.specs.declared.postings.Posting.{Posting}
use Rattle.accounts.specs.Kinds.{block_ref, data_ref, extent, extent_form}
use Rattle.accounts.specs.declared.kinds.TheConstants.{BLOCK_REF, EXTENT_FORM, REFERENCES, USES, EXTENT_ITEMS, EXTENT_REFS_SAID, EXTENT_REFS_FOUND, FORM_ITEMS, FORM_USES}
use Rattle.accounts.specs.Sums.{total_of}
use Rattle.accounts.specs.Tally.{Sums}
use Rattle.accounts.specs.Lent.{to}
use Rattle.verdict.specs.declared.kinds.TheConstants.{METADATA_ITEM}
use Rattle.extent_tally.specs.declared.class.ExtentClass.{ExtentClass}
use Rattle.extent_tally.specs.declared.tally.ExtentTally.{ExtentTally}

-- who uses an extent: of a tree block (169) a tree, else an inode of a tree
abbrev pub user : ℕ → ℕ → ℕ → ℕ → ℕ → Account
user sort address root ino origin = if sort == METADATA_ITEM then block_ref root address else data_ref root address ino origin

abbrev pub user_account : ExtentClass → Account
user_account class = user class.sort class.address class.root class.ino class.origin

-- the postings that a class comes to: of the extent, of its form, of its user
abbrev pub class_postings : ExtentClass → List Posting
class_postings class =
    to (extent class.address) EXTENT_ITEMS 1
    ∷ to (extent class.address) EXTENT_REFS_SAID (class.linked + class.lacks)
    ∷ to (extent class.address) EXTENT_REFS_FOUND class.linked
    ∷ to (extent_form class.address class.sort class.form) FORM_ITEMS 1
    ∷ to (extent_form class.address class.sort class.form) FORM_USES class.shown
    ∷ to (user_account class) REFERENCES class.given
    ∷ to (user_account class) USES class.used
    ∷ []

-- the sums that a class comes to
abbrev pub class_sums : ExtentClass → Sums
class_sums class = total_of (class_postings class)

-- the sums that classes come to
abbrev pub sums_of : List ExtentClass → Sums
sums_of classes account field = sum_by (λ class. class_sums class account field) classes

-- the sums that are kept
unfoldable pub extents_apart : ExtentTally → Sums
extents_apart tally = sums_of tally.list.items

-- whether accounts of a kind are kept here: A1 and A2 references, A3 extent, A4 form
abbrev pub is_of_extents : ℕ → Bool
is_of_extents kind = nat_le BLOCK_REF kind && nat_le kind EXTENT_FORM

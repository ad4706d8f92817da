-- Accounts of names and of who refers to extents, as what they are made of, and what is posted of these and of inodes.
use Rattle.std.specs.Prelude.{ℕ, List, [], ◌∷◌}
use Rattle.verdict.specs.declared.key.Key.{Key}
use Rattle.accounts.specs.declared.account.Account.{Account}
use Rattle.accounts.specs.declared.name.NameAccount.{NameAccount}
use Rattle.accounts.specs.declared.name.NameAccount.TheVariants.{Entry, Link}
use Rattle.accounts.specs.declared.postings.Posting.{Posting}
use Rattle.accounts.specs.declared.user.User.{User}
use Rattle.accounts.specs.declared.user.User.TheVariants.{Tree, Block, File, Leaf}
use Rattle.accounts.specs.declared.kinds.TheConstants.{REFERENCES, USES, EXTENT_ITEMS, EXTENT_REFS_SAID, EXTENT_REFS_FOUND, FORM_ITEMS, FORM_USES, INODE_OTHERS, TYPE_ENTRIES, TYPE_ITEMS}
use Rattle.accounts.specs.Kinds.{block_ref, data_ref, extent, extent_form, inode, inode_type, link, name_entry, shared_block_ref, shared_data_ref}

abbrev pub account_lent : NameAccount → Account
account_lent (Entry tree dir hash location name sort) = name_entry tree dir hash location name.now sort
account_lent (Link tree ino dir index name) = link tree ino dir index name.now

-- an amount to a sum of such an account
abbrev pub posting_lent : NameAccount → ℕ → ℕ → Posting
posting_lent name field amount = record { account = account_lent name; field = field; amount = amount }

-- an amount to one sum of an account
abbrev pub to : Account → ℕ → ℕ → Posting
to account field amount = record { account = account; field = field; amount = amount }

-- an amount to a sum of an inode
abbrev pub inode_posting : ℕ → ℕ → ℕ → ℕ → Posting
inode_posting tree ino field amount = to (inode tree ino) field amount

-- that an item of an inode says its type
abbrev pub typed_posting : ℕ → ℕ → ℕ → Posting
typed_posting tree ino sort = to (inode_type tree ino sort) TYPE_ITEMS 1

-- that an entry of a directory leads to an inode and says its type
abbrev pub target_pair : ℕ → ℕ → ℕ → List Posting
target_pair tree ino sort = to (inode tree ino) INODE_OTHERS 1 ∷ to (inode_type tree ino sort) TYPE_ENTRIES 1 ∷ []

-- who refers to the extent at an address
abbrev pub user_account : ℕ → User → Account
user_account address (Tree root) = block_ref root address
user_account address (Block parent) = shared_block_ref parent address
user_account address (File root ino origin) = data_ref root address ino origin
user_account address (Leaf parent) = shared_data_ref parent address

-- that there is an extent, by the key of its item, and how many references it says
abbrev pub extent_triple : Key → ℕ → List Posting
extent_triple key refs =
    to (extent key.objectid) EXTENT_ITEMS 1
    ∷ to (extent key.objectid) EXTENT_REFS_SAID refs
    ∷ to (extent_form key.objectid key.kind key.offset) FORM_ITEMS 1
    ∷ []

-- so many references to the extent at an address
abbrev pub reference_pair : ℕ → User → ℕ → List Posting
reference_pair address user count = to (extent address) EXTENT_REFS_FOUND count ∷ to (user_account address user) REFERENCES count ∷ []

-- a use of the extent at an address, by who says its form
abbrev pub use_pair : ℕ → User → ℕ → ℕ → List Posting
use_pair address user kind form = to (user_account address user) USES 1 ∷ to (extent_form address kind form) FORM_USES 1 ∷ []

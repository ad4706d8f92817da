-- What is kept apart of extents, of names and of inodes, and what is added to it.
use Rattle.std.specs.Prelude.{◌+◌, List, OnOk}
use Rattle.accounts.specs.declared.postings.Posting.{Posting}
use Rattle.accounts.specs.Apart.{AddsUp}
use Rattle.accounts.specs.Posts.{Done}
use Rattle.accounts.specs.Tally.{Sums}
use Rattle.extent_tally.specs.Held.{extents_apart}
use Rattle.name_tally.specs.Names.{names_apart}
use Rattle.inode_tally.specs.Held.{inodes_apart}
use Rattle.account_tally.specs.declared.apart.Apart.{Apart}

-- the sums of three parts, each kept apart
abbrev pub three : Sums → Sums → Sums → Sums
three extents names inodes account field = extents account field + (names account field + inodes account field)

-- what is kept apart
abbrev pub sums_apart : Apart → Sums
sums_apart apart = three (extents_apart apart.extents) (names_apart apart.names) (inodes_apart apart.inodes)

-- what is kept apart and what waits come to more by these postings; out of memory, any part of them may be added
pub record Adds (old new : Apart) (result : Done) (postings : List Posting) : Type 0 where
  pub sums : OnOk result (AddsUp (sums_apart old) (sums_apart new) old.waiting new.waiting postings)

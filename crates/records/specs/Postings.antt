-- What the records of an image post to accounts, and the finding of the accounts.
use Rattle.std.specs.Prelude.{List, ◌++◌, flat_map, Option, option_map}
use Rattle.verdict.specs.declared.finding.Finding.{Finding}
use Rattle.accounts.specs.declared.postings.Posting.{Posting}
use Rattle.accounts.specs.Context.{Context}
use Rattle.accounts.specs.Broken.{broken_finding}
use Rattle.accounts.specs.Least.{least_broken}
use Rattle.records.specs.Part.{Located}
use Rattle.records.specs.ExtentPostings.{extent_postings}
use Rattle.records.specs.InodePostings.{inode_postings}
use Rattle.records.specs.DirPostings.{dir_postings}
use Rattle.records.specs.SpacePostings.{space_postings}

-- what a record posts, a family of accounts after the other
abbrev pub postings_of : Context → Located → List Posting
postings_of context one =
    extent_postings one.tree one.part
    ++ (inode_postings one.tree one.part ++ (dir_postings one.tree one.part ++ space_postings context one.tree one.part))

-- what the records of an image post
abbrev pub all_postings : Context → List Located → List Posting
all_postings context records = flat_map (postings_of context) records

-- the finding of the accounts: that of the least broken one
abbrev pub account_fault : Context → List Located → Option Finding
account_fault context records = option_map broken_finding (least_broken (all_postings context records))

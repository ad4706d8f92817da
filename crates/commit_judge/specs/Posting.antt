-- What a record posts but to sectors, by its tree and what it says.
use Rattle.std.specs.Prelude.{ℕ, List, ◌++◌}
use Rattle.accounts.specs.Context.{Context}
use Rattle.accounts.specs.declared.postings.Posting.{Posting}
use Rattle.records.specs.DirPostings.{dir_postings}
use Rattle.records.specs.ExtentPostings.{extent_postings}
use Rattle.records.specs.InodePostings.{inode_postings}
use Rattle.records.specs.Part.{Part}
use Rattle.records.specs.SpacePostings.{rest_postings}

abbrev pub posts_at : Context → ℕ → Part → List Posting
posts_at context tree part =
    extent_postings tree part ++ (inode_postings tree part ++ (dir_postings tree part ++ rest_postings context tree part))

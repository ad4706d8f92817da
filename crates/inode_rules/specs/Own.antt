-- What a record says of its own inode, but for what an entry of a directory says of the inode that it leads to.
use Rattle.std.specs.Prelude.{ℕ, List, flat_map}
use Rattle.accounts.specs.declared.postings.Posting.{Posting}
use Rattle.records.specs.InodePostings.{inode_postings, own_entry_postings}
use Rattle.records.specs.Part.{Part}
use Rattle.records.specs.Part.Part.{EntriesPart}

-- what a record of a tree posts to its own inode
unfoldable pub own_postings : ℕ → Part → List Posting
own_postings tree (EntriesPart item) = flat_map (own_entry_postings tree item.key.objectid) item.entries
own_postings tree other = inode_postings tree other

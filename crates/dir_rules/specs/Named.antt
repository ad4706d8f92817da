-- What a record says of names and of subvolumes, where an entry of a directory posts what is told.
use Rattle.std.specs.Prelude.{ℕ, List, [], flat_map}
use Rattle.verdict.specs.declared.key.Key.{Key}
use Rattle.fs_items.specs.DirRow.{EntryFields}
use Rattle.accounts.specs.declared.postings.Posting.{Posting}
use Rattle.records.specs.DirPostings.{names_postings, root_link_postings, root_postings}
use Rattle.records.specs.Part.{Part}
use Rattle.records.specs.Part.Part.{RootPart, LinkPart, NamesPart, EntriesPart}

-- the postings of a record of a tree
unfoldable pub named_postings : (ℕ → Key → EntryFields → List Posting) → ℕ → Part → List Posting
named_postings of_entry tree (NamesPart item) = names_postings tree item
named_postings of_entry tree (EntriesPart item) = flat_map (of_entry tree item.key) item.entries
named_postings of_entry tree (RootPart item) = root_postings item
named_postings of_entry tree (LinkPart item) = root_link_postings item
named_postings of_entry tree other = []

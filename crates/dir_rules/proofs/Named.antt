-- What a record says of names, entry by entry.
use Rattle.std.proofs.Common.{◌≡◌, ℕ, refl}
use Rattle.records.specs.DirPostings.{dir_entry_postings, dir_postings}
use Rattle.records.specs.Part.{Part}
use Rattle.records.specs.Part.Part.{RootPart}
use Rattle.dir_rules.specs.Named.{named_postings}

pub named_one_by_one : (tree : ℕ) (part : Part) → named_postings dir_entry_postings tree part ≡ dir_postings tree part
unfolding named_postings dir_postings
named_one_by_one tree (RootPart item) = refl
named_one_by_one tree other = refl

-- What is made of the records of an image by one that keeps the sums of their accounts. The layer above needs only what all records make.
use Rattle.std.specs.Prelude.{ℕ, ◌+◌, Bool, false, ◌||◌, List, ◌++◌, Option, Some, None}
use Rattle.verdict.specs.declared.place.Chunk.{Chunk}
use Rattle.accounts.specs.declared.postings.Posting.{Posting}
use Rattle.accounts.specs.Context.{Context, no_full}
use Rattle.accounts.specs.Tally.{Sums, no_sums, with_postings}
use Rattle.sector_runs.specs.Runs.{SectorSums, no_sectors}
use Rattle.records.specs.Part.{Located}
use Rattle.records.specs.Context.{is_inode, sum_free_inode}
use Rattle.records.specs.ExtentPostings.{extent_postings}
use Rattle.records.specs.InodePostings.{inode_postings}
use Rattle.records.specs.DirPostings.{dir_postings}
use Rattle.records.specs.SpacePostings.{rest_postings, sector_sum}

-- which inodes' data has no checksums: whether that of an inode of a tree has none
abbrev pub Frees : Type 0
Frees = ℕ → ℕ → Bool

-- all data has checksums
abbrev pub none_free : Frees
none_free tree ino = false

-- one inode more, if there is one
abbrev pub or_free : Frees → Option (ℕ × ℕ) → Frees
or_free free None tree ino = free tree ino
or_free free (Some one) tree ino = free tree ino || is_inode tree ino one

-- the context of an image with these chunks and this size of a tree block
abbrev pub context_with : List Chunk → ℕ → Frees → Context
context_with chunks nodesize free = record { chunks = chunks; nodesize = nodesize; sum_free = free; full = no_full }

-- what a record posts but to sectors; that does not rest on which data has checksums
abbrev pub rest_of : List Chunk → ℕ → Located → List Posting
rest_of chunks nodesize one =
    extent_postings one.tree one.part
    ++ (inode_postings one.tree one.part
    ++ (dir_postings one.tree one.part ++ rest_postings (context_with chunks nodesize none_free) one.tree one.part))

-- the sums of sectors, by which data has no checksums
abbrev pub SumsByFree : Type 0
SumsByFree = Frees → SectorSums

-- with what a record more posts
abbrev pub with_sectors : List Chunk → ℕ → SumsByFree → Located → SumsByFree
with_sectors chunks nodesize sums one free address field =
    sums free address field + sector_sum (context_with chunks nodesize free) one.tree one.part address field

-- What is made of records, in an image with these chunks and this size of a tree block: the sums of their accounts but for sectors, those
-- of sectors, and which data has no checksums.
pub record Summed : Type 0 where
  pub chunks : List Chunk
  pub nodesize : ℕ
  pub sums : Sums
  pub sectors : SumsByFree
  pub free : Frees

-- that, with a record more
abbrev pub with_record : Summed → Located → Summed
with_record held one = record {
  chunks = held.chunks;
  nodesize = held.nodesize;
  sums = with_postings held.sums (rest_of held.chunks held.nodesize one);
  sectors = with_sectors held.chunks held.nodesize held.sectors one;
  free = or_free held.free (sum_free_inode one);
}

-- what is made of no records
abbrev pub of_none : List Chunk → ℕ → Summed
of_none chunks nodesize = record { chunks = chunks; nodesize = nodesize; sums = no_sums; sectors = λ _. no_sectors; free = none_free }

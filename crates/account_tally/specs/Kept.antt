-- What is kept of sectors, and of which data has no checksums. But for `chosen` these words serve private functions alone.
use Rattle.std.specs.Prelude.{◌≡◌, ℕ, ◌+◌, ◌==◌, nat_lt, true, false, List, [], ◌∷◌, Option, Some, None, if◌then◌else◌}
use Rattle.std.specs.List.{list_any}
use Rattle.accounts.specs.declared.account.Account.{Account}
use Rattle.accounts.specs.declared.postings.Posting.{Posting}
use Rattle.accounts.specs.Kinds.{sector}
use Rattle.accounts.specs.declared.kinds.TheConstants.{SECTOR}
use Rattle.accounts.specs.Sums.{is_same, total_of}
use Rattle.accounts.specs.Tally.{Sums, kept, sums_in}
use Rattle.sector_runs.specs.Runs.{SectorSums, amount_of}
use Rattle.sector_runs.specs.Edges.{sums_of}
use Rattle.records.specs.Context.{is_inode}
use Rattle.account_tally.specs.Apart.{sums_apart}
use Rattle.account_tally.specs.Sums.{Frees, Summed, SumsByFree}
use Rattle.account_tally.specs.Ranges.{range_run}
use Rattle.account_tally.specs.declared.summing.Accounts.{Accounts}
use Rattle.account_tally.specs.declared.shown.Shown.{Shown}
use Rattle.account_tally.specs.declared.shown.SumFree.{SumFree}
use Rattle.account_tally.specs.declared.shown.SectorTally.{SectorTally}

-- the inodes of a set
abbrev pub free_in : SumFree → Frees
free_in set tree ino = list_any (is_inode tree ino) set.inodes.keys

-- what shown sectors come to, those left out whose data has no checksums
abbrev pub shown_sums : List Shown → SumsByFree
shown_sums [] free address field = 0
shown_sums (one ∷ more) free address field =
    (if free one.tree one.ino then 0 else amount_of (range_run one) address field) + shown_sums more free address field

-- what is kept of sectors
abbrev pub sectors_in : SectorTally → SumsByFree
sectors_in tally free address field = sums_of tally.sectors address field + shown_sums tally.shown.items free address field

-- Some postings' sums are those of others, which go to no sector, and of sectors: an account of another kind has the sums of the others,
-- a sector has its own, and no other account of its kind has any.
pub record AreSumsOf (all rest : List Posting) (sectors : SectorSums) : Type 0 where
  pub others : (account : Account) → (account.kind == SECTOR) ≡ false → (field : ℕ) → total_of all account field ≡ total_of rest account field
  pub none : (account : Account) → (account.kind == SECTOR) ≡ true → (field : ℕ) → total_of rest account field ≡ 0
  pub of_sectors : (address field : ℕ) → total_of all (sector address) field ≡ sectors address field
  pub no_more : (account : Account) → (account.kind == SECTOR) ≡ true → is_same account (sector account.block) ≡ false → (field : ℕ) → total_of all account field ≡ 0

-- what is kept in a tally, apart from it, and as a list of postings
unfoldable pub held_sums : Sums → Sums → List Posting → Sums
held_sums rest apart waiting account = kept account.kind (λ field. rest account field + (apart account field + total_of waiting account field))

-- what is made of the records that were taken
abbrev pub summed_in : Accounts → Summed
summed_in accounts = record {
  chunks = accounts.context.map.now;
  nodesize = accounts.context.nodesize;
  sums = held_sums (sums_in accounts.rest) (sums_apart accounts.apart) accounts.apart.waiting;
  sectors = sectors_in accounts.sectors;
  free = free_in accounts.sectors.free;
}

-- the lesser of a sector and an account that is none of a sector, if there are such
abbrev pub chosen : Option ℕ → Option Account → Option Account
chosen None least = least
chosen (Some address) None = Some (sector address)
chosen (Some address) (Some account) = if nat_lt account.kind SECTOR then Some account else Some (sector address)

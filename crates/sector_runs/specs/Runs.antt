-- What runs of sectors come to, sector by sector.
use Rattle.std.specs.Prelude.{ℕ, ◌+◌, ◌*◌, ◌<◌, ◌^◌, ◌≡◌, true, false, Bool, ◌&&◌, ◌||◌, ◌==◌, nat_le, nat_lt, Option, Some, None, if◌then◌else◌}
use Rattle.verdict.specs.Items.{is_multiple}
use Rattle.accounts.specs.Kinds.{sector}
use Rattle.accounts.specs.declared.kinds.TheConstants.{SECTOR_EXTENTS, SECTOR_DATA, SECTOR_SUMS, SECTOR_SHOWN}
use Rattle.accounts.specs.Broken.{is_broken}
use Rattle.sector_runs.specs.declared.run.SectorRun.{SectorRun}
use Rattle.sector_runs.specs.declared.run.SectorUse.{SectorUse}
use Rattle.sector_runs.specs.declared.run.SectorUse.TheVariants.{Data, Block, Summed, Shown}

-- sums of sectors: of each address, by field
abbrev pub SectorSums : Type 0
SectorSums = ℕ → ℕ → ℕ

-- whether a run has the sector at an address
abbrev pub has_sector : SectorRun → ℕ → Bool
has_sector run address = is_multiple address && (nat_le run.first address && nat_lt address (run.first + 4096 * run.count))

-- which sums of a sector a use of it counts in: an extent of file data has it, one of a tree block has it, it has a checksum, a file shows it
abbrev pub counts_in : SectorUse → ℕ → Bool
counts_in Data field = field == SECTOR_EXTENTS || field == SECTOR_DATA
counts_in Block field = field == SECTOR_EXTENTS
counts_in Summed field = field == SECTOR_SUMS
counts_in Shown field = field == SECTOR_SHOWN

-- what a run adds to the sums of a sector
unfoldable pub amount_of : SectorRun → SectorSums
amount_of run address field = if has_sector run address && counts_in run.sort field then 1 else 0

-- that, where there is a run
abbrev pub amount_in : Option SectorRun → SectorSums
amount_in (Some run) address field = amount_of run address field
amount_in None address field = 0

-- no sum of any sector
abbrev pub no_sectors : SectorSums
no_sectors address field = 0

-- the sums with a run more
abbrev pub with_run : SectorSums → SectorRun → SectorSums
with_run sums run address field = sums address field + amount_of run address field

-- a run begins at a sector and ends at an address of 64 bits
abbrev pub IsFit : SectorRun → Type 0
IsFit run = (is_multiple run.first ≡ true) × (run.first + 4096 * run.count < 2 ^ 64)

-- A sector is broken and no sector before it is; or none is.
abbrev pub IsLeastBroken : SectorSums → Option ℕ → Type 0
IsLeastBroken sums None = (address : ℕ) → is_broken (sector address) (sums address) ≡ false
IsLeastBroken sums (Some least) =
    (is_broken (sector least) (sums least) ≡ true) × ((address : ℕ) → address < least → is_broken (sector address) (sums address) ≡ false)

-- The run of sectors that a record has, and its postings sector by sector. It serves private functions alone.
use Rattle.std.specs.Prelude.{ℕ, ◌+◌, ◌/◌, Bool, List, [], ◌∷◌, length, flat_map, Option, Some, None, if◌then◌else◌}
use Rattle.fs_items.specs.declared.file_extent.FileExtent.{FileExtent}
use Rattle.fs_items.specs.SumsRow.{SumFields}
use Rattle.accounts.specs.Context.{Context, home_of}
use Rattle.accounts.specs.declared.context.Home.{Home}
use Rattle.accounts.specs.declared.postings.Posting.{Posting}
use Rattle.accounts.specs.Kinds.{sector, group_class, group_of, outside}
use Rattle.accounts.specs.declared.kinds.TheConstants.{SECTOR_EXTENTS, SECTOR_DATA, SECTOR_SUMS, SECTOR_SHOWN, GROUP_TAKEN, OTHER_CLASS, OUTSIDE_CHUNKS}
use Rattle.sector_runs.specs.declared.run.SectorRun.{SectorRun}
use Rattle.sector_runs.specs.declared.run.SectorUse.{SectorUse}
use Rattle.sector_runs.specs.declared.run.SectorUse.TheVariants.{Data, Block, Summed, Shown}
use Rattle.records.specs.Part.{Part}
use Rattle.records.specs.Part.Part.{ExtentPart, FileExtentPart, SumsPart}
use Rattle.records.specs.SpacePostings.{extent_length, is_data, is_other_class, sectors_from, shows_sums}
use Rattle.accounts.specs.Lent.{to}

-- the sectors of an extent
abbrev pub owned_run : Bool → ℕ → ℕ → SectorRun
owned_run of_data address bytes = record { first = address; count = bytes / 4096; sort = if of_data then Data else Block }

-- the sectors that a range of a file shows
abbrev pub shown_run : FileExtent → SectorRun
shown_run range = record { first = range.extent + range.offset; count = range.length / 4096; sort = Shown }

-- the sectors that checksums are of
abbrev pub summed_run : SumFields → SectorRun
summed_run item = record { first = item.key.offset; count = length item.sums / 4; sort = Summed }

-- a run where there is a home
abbrev pub where_home : Option Home → SectorRun → Option SectorRun
where_home None run = None
where_home (Some home) run = Some run

-- the run of a record of a tree
abbrev pub run_in : Context → ℕ → Part → Option SectorRun
run_in context tree (ExtentPart item) =
    where_home (home_of context item.key.objectid (extent_length context item)) (owned_run (is_data item) item.key.objectid (extent_length context item))
run_in context tree (FileExtentPart range) =
    if shows_sums context tree range then where_home (home_of context range.extent range.extent_length) (shown_run range) else None
run_in context tree (SumsPart item) = Some (summed_run item)
run_in context tree other = None

-- the postings of a sector that is used so
abbrev pub use_postings : SectorUse → ℕ → List Posting
use_postings Data address = to (sector address) SECTOR_EXTENTS 1 ∷ to (sector address) SECTOR_DATA 1 ∷ []
use_postings Block address = to (sector address) SECTOR_EXTENTS 1 ∷ []
use_postings Summed address = to (sector address) SECTOR_SUMS 1 ∷ []
use_postings Shown address = to (sector address) SECTOR_SHOWN 1 ∷ []

-- the postings of a run
abbrev pub run_postings : SectorRun → List Posting
run_postings run = flat_map (use_postings run.sort) (sectors_from run.first run.count)

abbrev pub run_postings_in : Option SectorRun → List Posting
run_postings_in None = []
run_postings_in (Some run) = run_postings run

-- the place of an extent without its sectors
abbrev pub rest_of_place : Bool → ℕ → ℕ → Option Home → List Posting
rest_of_place of_data address bytes (Some home) =
    to (group_of home) GROUP_TAKEN bytes
    ∷ (if is_other_class of_data home.class then to (group_class address) OTHER_CLASS 1 ∷ [] else [])
rest_of_place of_data address bytes None = to (outside address) OUTSIDE_CHUNKS 1 ∷ []

-- These words serve private functions alone: ranges of files.
use Rattle.std.specs.Prelude.{ℕ, List, Option, Some, None}
use Rattle.std.specs.List.{All}
use Rattle.sector_runs.specs.Runs.{IsFit}
use Rattle.records.specs.Part.{Part}
use Rattle.records.specs.Part.Part.{FileExtentPart}
use Rattle.sector_runs.specs.declared.run.SectorRun.{SectorRun}
use Rattle.sector_runs.specs.declared.run.SectorUse.TheVariants.{Shown as IsShown}
use Rattle.account_tally.specs.declared.shown.Shown.{Shown}

-- the inode of a range of a file
abbrev pub inode_in : Part → Option ℕ
inode_in (FileExtentPart range) = Some range.key.objectid
inode_in other = None

-- the sectors that a range shows
abbrev pub range_run : Shown → SectorRun
range_run one = record { first = one.first; count = one.count; sort = IsShown }

-- each shown run is fit
abbrev pub AllFit : List Shown → Type 0
AllFit shown = All (λ (one : Shown). IsFit (range_run one)) shown

-- The sums that are kept, by where runs begin and end. It serves to state what a call leaves of them.
use Rattle.std.specs.Prelude.{suc, ◌-◌, if◌then◌else◌}
use Rattle.std.specs.Ordering.{nat_cmp}
use Rattle.std.specs.BTreeMap.{get}
use Rattle.verdict.specs.Items.{is_multiple}
use Rattle.sector_runs.specs.declared.kept.Sectors.{Sectors}
use Rattle.sector_runs.specs.Kept.{below, begins, ends}
use Rattle.sector_runs.specs.Runs.{SectorSums}

-- the sums of sectors: the runs that begin at an address or before it, without those that end there or before
unfoldable pub sums_of : Sectors → SectorSums
sums_of sectors address field =
    if is_multiple address
    then below (begins field) (get nat_cmp sectors.edges) (suc address) - below (ends field) (get nat_cmp sectors.edges) (suc address)
    else 0

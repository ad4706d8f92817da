use Rattle.std.proofs.Common.{◌≡◌, ◌-◌}
use Rattle.node_reader.specs.Places.{least_from}
use Rattle.volume_maker.specs.Volume.{is_free, lowest_free}
use Rattle.volume_maker.proofs.volume.free_sectors.Given as goal

-- what is left of the places decides
abbrev pub invariant-loop-sector : goal.invariant-loop-sector
invariant-loop-sector l =
    lowest_free l.extents l.sectors ≡ least_from (is_free l.extents l.sectors) l.sector (2049 - l.sectors - l.sector)

use Rattle.std.proofs.Common.{◌-◌, not, sym, ap, ◌∙◌, arith}
use Rattle.node_reader.proofs.Steps.{least_from_here, least_from_past}
use Rattle.volume_maker.specs.Volume.{is_free}
use Rattle.volume_maker.proofs.volume.free_sectors.Goals as goal

pub returns-then-not-is_taken : goal.returns-then-not-is_taken
returns-then-not-is_taken c =
    let free = is_free c.args.extents.now c.args.sectors in
    let from = c.from.ensures in
    c.loop-sector.invariant ∙ least_from_here free c.loop-sector.sector (2049 - c.args.sectors) (omega arith) (ap not (sym c.if-not-is_taken.ensures))

pub loop-sector-preserved : goal.loop-sector-preserved
loop-sector-preserved c =
    let free = is_free c.args.extents.now c.args.sectors in
    let from = c.from.ensures in
    c.loop-sector.invariant ∙ least_from_past free c.loop-sector.sector (2049 - c.args.sectors) (omega arith) (ap not (sym c.if-not-is_taken.ensures))

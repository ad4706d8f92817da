use Rattle.std.proofs.Common.{sym, subst}
use Rattle.std.specs.Prelude.{Ok}
use Rattle.extent_items.specs.ExtentItems.{extent_fields_in}
use Rattle.volume_items.specs.ChunkItems.{fields_in}
use Rattle.space_rules.proofs.Runs.{chunk_rest, no_rest, place_alone}
use Rattle.space_rules.proofs.rows.post_rest.Goals as goal

-- src/rows.rt:59:1
pub returns-in-ChunkItem : goal.returns-in-ChunkItem
returns-in-ChunkItem g c =
    rw (c.in-ChunkItem.is) (subst (g.P.Poster.Leaves c.args.into.now c.post_chunk.new.into c.post_chunk.result) (chunk_rest (g.C.Ctx.context c.args.ctx.now) c.args.tree (fields_in c.in-ChunkItem.item)) c.post_chunk.ensures)

-- src/rows.rt:59:1
pub returns-in-ExtentItem : goal.returns-in-ExtentItem
returns-in-ExtentItem g c =
    let place = c.place_of.ensures in
    rw (c.in-ExtentItem.is)
    (subst (g.P.Poster.Leaves c.args.into.now c.post_rest.new.into c.post_rest.result)
    (place_alone (g.C.Ctx.context c.args.ctx.now) c.args.tree (extent_fields_in c.in-ExtentItem.item) _ _ _ _ place.of_data place.address place.length place.home) c.post_rest.ensures)

-- src/rows.rt:59:1
pub returns-in_default : goal.returns-in_default
returns-in_default g c =
    let none = no_rest (g.C.Ctx.context c.args.ctx.now) c.args.tree c.args.part.now c.in_default.not-Super c.in_default.not-ChunkItem c.in_default.not-DeviceItem c.in_default.not-DevExtent c.in_default.not-GroupItem c.in_default.not-ExtentItem in
    subst (g.P.Poster.Leaves c.args.into.now c.args.into.now (Ok tt)) (sym none) (g.met.P.Poster.passes.none c.args.into.now)

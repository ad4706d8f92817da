use Rattle.std.proofs.Common.{◌∙◌, refl}
use Rattle.volume_items.specs.ChunkOrder.{by_start}
use Rattle.chunk_map.proofs.Ordered.{map_array, map_sorted}
use Rattle.chunk_map.proofs.map.ChunkMap.map_fault.Goals as goal

pub returns-in-Some : goal.returns-in-Some
returns-in-Some c = map_array _ _ _ _ c.args.end _ (c.deref.ensures.value ∙ c.self.view_is) (c.deref-2.ensures.value ∙ c.sys.view_is) (c.in-Some.ensures {u = tt})

pub returns : goal.returns
returns c = map_sorted c.args.self.now _ _ _ c.args.self.now (by_start c.args.self.now) c.args.end _ _ (c.deref.ensures.value ∙ c.self.view_is) (c.deref-2.ensures.value ∙ c.sys.view_is) c.array_fault.ensures c.in_default.is refl refl c.own_fault.ensures

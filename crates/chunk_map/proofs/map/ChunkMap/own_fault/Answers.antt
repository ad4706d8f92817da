use Rattle.std.proofs.Common.{[], take, ◌∙◌, ap, subst, sym}
use Rattle.verdict.specs.Rules.{first_failing}
use Rattle.volume_items.specs.ChunkOrder.{by_start}
use Rattle.volume_items.specs.MapRules.{rows_by_start}
use Rattle.chunk_map.specs.Order.{AllClear}
use Rattle.chunk_map.proofs.map.ChunkMap.own_fault.Goals as goal

pub sorted_fault-requires : goal.sorted_fault-requires
sorted_fault-requires c = subst (λ cs. AllClear (take c.self.inside.front cs)) (sym c.as_slice.ensures.value) c.self.invariant.front_clear

pub returns : goal.returns
returns c = c.sorted_fault.ensures ∙ ap (λ cs. first_failing (rows_by_start [] cs c.args.end)) (c.as_slice.ensures.value ∙ c.self.invariant.order ∙ ap by_start c.self.view_is)

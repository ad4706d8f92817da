use Rattle.std.proofs.Common.{true}
use Rattle.chunk_map.proofs.Ordered.{none_in_order}
use Rattle.chunk_map.proofs.map.ChunkMap.new.Goals as goal

pub invariant_of-result : goal.invariant_of-result
invariant_of-result c = none_in_order _ _ _ true true c.new.ensures.items c.new-2.ensures.items c.new-3.ensures.empty

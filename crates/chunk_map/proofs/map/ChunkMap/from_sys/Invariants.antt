use Rattle.std.proofs.Common.{◌-◌}
use Rattle.chunk_map.proofs.Pairs.{ArrayLeft}
use Rattle.chunk_map.proofs.map.ChunkMap.from_sys.Given as goal

abbrev pub invariant-loop-at : goal.invariant-loop-at
invariant-loop-at l = ArrayLeft l.fn.sup l.at l.map

abbrev pub decreases-loop-at : goal.decreases-loop-at
decreases-loop-at l = l.fn.sup.array_size - l.at

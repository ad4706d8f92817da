use Rattle.std.proofs.Common.{◌≡◌, drop}
use Rattle.verdict.specs.Chunks.{logical_of}
use Rattle.chunk_map.proofs.copies.logical_in_list.Given as goal

-- what is left decides
abbrev pub invariant-loop-chunk : goal.invariant-loop-chunk
invariant-loop-chunk l = logical_of (drop l.chunk-index l.chunks) l.physical ≡ logical_of l.chunks l.physical

use Rattle.std.proofs.Common.{◌≡◌, take}
use Rattle.tree_change.specs.Distinct.{distinct}
use Rattle.tree_change.proofs.distinct.distinct_chunks.Given as goal

-- those of the chunks so far are kept
abbrev pub invariant-loop-chunk : goal.invariant-loop-chunk
invariant-loop-chunk l = l.some ≡ distinct (take l.chunk-index l.chunk-items)

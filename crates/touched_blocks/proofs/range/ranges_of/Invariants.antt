use Rattle.std.proofs.Common.{◌≡◌, take}
use Rattle.touched_blocks.proofs.Adding.{AddedChunks}
use Rattle.touched_blocks.proofs.range.ranges_of.Given as goal

abbrev pub invariant-loop-chunk : goal.invariant-loop-chunk
invariant-loop-chunk l =
    AddedChunks l.pending (take l.chunk-index l.chunk-items) l.initial.ranges.items l.ranges.items × (l.chunk-items ≡ l.pending.map.now)

use Rattle.std.proofs.Common.{◌≡◌, take}
use Rattle.touched_blocks.proofs.Gaps.{AddedLeft}
use Rattle.touched_blocks.proofs.leaving.ranges_left.Given as goal

abbrev pub invariant-loop-chunk : goal.invariant-loop-chunk
invariant-loop-chunk l =
    AddedLeft l.test (take l.chunk-index l.chunk-items) l.initial.ranges.items l.ranges.items × (l.chunk-items ≡ l.test.old.now)

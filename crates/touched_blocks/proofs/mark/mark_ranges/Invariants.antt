use Rattle.live_index.specs.Table.{pairs_of}
use Rattle.touched_blocks.proofs.Ranges.{AreRangesGone}
use Rattle.touched_blocks.proofs.mark.mark_ranges.Given as goal

abbrev pub invariant-loop-range : goal.invariant-loop-range
invariant-loop-range g l =
    AreRangesGone (pairs_of l.table) l.only (g.T.AddressTest.passes l.test) l.ranges l.range-index l.cursor l.initial.steps l.steps l.initial.marks l.marks

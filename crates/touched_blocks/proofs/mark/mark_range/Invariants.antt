use Rattle.live_index.specs.Table.{pairs_of}
use Rattle.touched_blocks.proofs.Going.{AreOnTheWay, room}
use Rattle.touched_blocks.proofs.mark.mark_range.Given as goal

abbrev pub invariant-loop-live : goal.invariant-loop-live
invariant-loop-live g l =
    AreOnTheWay (pairs_of l.table) l.only (g.T.AddressTest.passes l.test) l.range.from l.range.last l.fn.cursor l.at l.initial.steps l.steps l.initial.marks l.marks

abbrev pub decreases-loop-live : goal.decreases-loop-live
decreases-loop-live g l = room l.at

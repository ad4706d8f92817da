use Rattle.touched_blocks.proofs.Gaps.{AreLeft}
use Rattle.touched_blocks.proofs.leaving.add_left.Given as goal

abbrev pub invariant-loop-other : goal.invariant-loop-other
invariant-loop-other l = AreLeft l.test.nodesize l.chunk l.new l.other-index l.cursor l.initial.into.items l.into.items

use Rattle.std.proofs.Common.{take}
use Rattle.touched_blocks.specs.Marks.{marked_by, marked_in}
use Rattle.touched_blocks.specs.Touched.{touches_block, written_in}
use Rattle.touched_blocks.proofs.Putting.{ArePassing}
use Rattle.touched_blocks.proofs.own.touched_of.Given as goal

-- of the places so far those are marked that are touched
abbrev pub invariant-loop-place : goal.invariant-loop-place
invariant-loop-place l =
    ArePassing (touches_block (written_in l.cache) l.map l.nodesize l.end) (marked_in (take l.place-index l.place-items)) (marked_by l.touched)

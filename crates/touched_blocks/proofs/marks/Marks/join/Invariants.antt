use Rattle.std.proofs.Common.{take}
use Rattle.touched_blocks.specs.Marks.{count_of, marked_by}
use Rattle.touched_blocks.proofs.Putting.{ArePut}
use Rattle.touched_blocks.proofs.marks.Marks.join.Given as goal

-- the places so far are put
abbrev pub invariant-loop-place : goal.invariant-loop-place
invariant-loop-place l = ArePut (marked_by l.initial.self) (marked_by l.self) (take l.place-index l.place-items) (count_of l.initial.self) (count_of l.self)

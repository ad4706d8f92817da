use Rattle.live_index.specs.Table.{pairs_of}
use Rattle.touched_blocks.specs.Marks.{marked_by}
use Rattle.touched_blocks.specs.OneTree.{chosen}
use Rattle.touched_blocks.proofs.Moving.{few_of_move, few_unmarked, looks_of_move, moved_told}
use Rattle.touched_blocks.proofs.moves.marks_of_moves.Goals as goal

pub returns-clause-ok : goal.returns-clause-ok
returns-clause-ok g c =
    moved_told (pairs_of c.args.table.now) c.args.only c.new-test.result c.args.old.now c.args.new.now c.args.nodesize c.args.end c.in_ok-ranges.ranges.items c.as_slice.result.now _
    (marked_by c.new-marks.result) (marked_by c.mark_ranges.new.marks)
    c.new-test.ensures.old c.new-test.ensures.new c.new-test.ensures.nodesize c.new-test.ensures.end c.new-marks.ensures
    c.in_ok-ranges.ensures.ok c.as_slice.ensures.value c.in_ok-mark_ranges.ensures.ok

pub returns-clause-looks : goal.returns-clause-looks
returns-clause-looks g c =
    looks_of_move (chosen c.args.only (pairs_of c.args.table.now)) c.new-test.result c.args.old.now c.args.new.now c.args.nodesize c.args.end c.in_ok-ranges.ranges.items c.as_slice.result.now
    c.new-marks.result c.mark_ranges.new.marks c.args.steps.now c.mark_ranges.new.steps
    c.new-test.ensures.old c.new-test.ensures.new c.new-test.ensures.nodesize c.new-test.ensures.end
    c.in_ok-ranges.ensures.ok c.as_slice.ensures.value c.in_ok-mark_ranges.ensures.looks

pub returns-clause-few_marks : goal.returns-clause-few_marks
returns-clause-few_marks g c =
    few_of_move (pairs_of c.args.table.now) c.args.only c.new-test.result c.args.old.now c.args.new.now c.args.nodesize c.args.end _
    (marked_by c.new-marks.result) (marked_by c.mark_ranges.new.marks) _
    c.new-test.ensures.old c.new-test.ensures.new c.new-test.ensures.nodesize c.new-test.ensures.end c.new-marks.ensures
    c.in_ok-mark_ranges.ensures.ok c.count_law-2.ensures

pub returns-then-test-clause-few_marks : goal.returns-then-test-clause-few_marks
returns-then-test-clause-few_marks g c =
    few_unmarked (pairs_of c.args.table.now) c.args.only c.args.old.now c.args.new.now c.args.nodesize c.args.end (marked_by c.new-marks.result) _
    c.new-marks.ensures c.count_law.ensures

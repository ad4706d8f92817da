use Rattle.live_index.specs.Table.{pairs_of}
use Rattle.touched_blocks.specs.Marks.{marked_by}
use Rattle.touched_blocks.proofs.Telling.{few_told, looks_told, marked_told}
use Rattle.touched_blocks.proofs.written.touched_blocks.Goals as goal

pub returns-clause-ok : goal.returns-clause-ok
returns-clause-ok g c =
    marked_told (pairs_of c.args.table.now) _ c.in_ok-ranges.ranges.items c.as_slice.result.now _ (marked_by c.new-marks.result) (marked_by c.mark_ranges.new.marks)
    c.new-marks.ensures c.in_ok-ranges.ensures.ok c.as_slice.ensures.value c.in_ok-mark_ranges.ensures.ok

pub returns-clause-looks : goal.returns-clause-looks
returns-clause-looks g c =
    looks_told (pairs_of c.args.table.now) _ c.in_ok-ranges.ranges.items c.as_slice.result.now c.new-marks.result c.mark_ranges.new.marks
    c.args.steps.now c.mark_ranges.new.steps c.in_ok-spots_of.ensures.pieces
    c.in_ok-ranges.ensures.ok c.as_slice.ensures.value c.in_ok-mark_ranges.ensures.looks

pub returns-clause-few : goal.returns-clause-few
returns-clause-few g c =
    few_told (pairs_of c.args.table.now) _ c.in_ok-ranges.ranges.items c.as_slice.result.now c.new-marks.result c.mark_ranges.new.marks
    c.args.steps.now c.mark_ranges.new.steps c.in_ok-spots_of.ensures.pieces
    c.in_ok-ranges.ensures.ok c.as_slice.ensures.value c.in_ok-mark_ranges.ensures.looks

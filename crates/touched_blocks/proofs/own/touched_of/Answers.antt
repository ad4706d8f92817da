use Rattle.std.proofs.Common.{◌∙◌, arith}
use Rattle.std.proofs.lemmas.Grind.{common_steps}
use Rattle.std.proofs.lemmas.List.{take_all}
use Rattle.touched_blocks.specs.Marks.{marked_by}
use Rattle.touched_blocks.specs.Touched.{touches_block, written_in}
use Rattle.touched_blocks.proofs.Putting.{passing_all}
use Rattle.touched_blocks.proofs.own.touched_of.Goals as goal

pub returns : goal.returns
returns c =
    passing_all (touches_block (written_in c.args.cache.now) c.args.map.now c.args.nodesize c.args.end) _ c.in_ok-places.places.items
    (marked_by c.args.marks.now) (marked_by c.loop-place.touched)
    (take_all c.loop-place.place-index c.deref-place-items.result.now (grind (arith, common_steps)) ∙ c.deref-place-items.ensures.value)
    c.in_ok-places.ensures.ok c.loop-place.invariant

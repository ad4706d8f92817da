use Rattle.std.proofs.Common.{◌≤◌, ◌∙◌, ap, subst, arith}
use Rattle.std.proofs.lemmas.Grind.{common_steps}
use Rattle.std.proofs.lemmas.List.{take_all}
use Rattle.std.specs.List.{count_by, list_any}
use Rattle.touched_blocks.specs.Spots.{has_offset}
use Rattle.touched_blocks.proofs.Adding.{item_written, spots_all, spots_more}
use Rattle.touched_blocks.proofs.range.add_copy.Goals as goal

pub add_spot-requires-clause-written : goal.add_spot-requires-clause-written
add_spot-requires-clause-written c =
    item_written c.args.pending.now c.spots_in-spot-items.result.now c.loop-spot.spot-index _ c.args.copy c.args.chunk.now.length
    (λ o low high. c.spots_in-spot-items.ensures.any o low high ∙ ap (list_any (has_offset o)) c.as_slice.ensures.value) c.loop-spot-test.true

pub loop-spot-preserved : goal.loop-spot-preserved
loop-spot-preserved c =
    spots_more c.args.pending.now c.args.chunk.now c.args.copy c.spots_in-spot-items.result.now c.loop-spot.spot-index _
    c.args.into.now.items c.loop-spot.into.items c.add_spot.new.into.items c.loop-spot.invariant c.loop-spot-test.true c.in_ok-add_spot.ensures

pub returns : goal.returns
returns c =
    spots_all c.args.pending.now c.args.chunk.now c.args.copy c.spots_in-spot-items.result.now c.loop-spot.spot-index c.args.into.now.items c.loop-spot.into.items
    (take_all c.loop-spot.spot-index c.spots_in-spot-items.result.now (grind (arith, common_steps)))
    (λ o low high. c.spots_in-spot-items.ensures.any o low high ∙ ap (list_any (has_offset o)) c.as_slice.ensures.value)
    (λ test. subst (λ l. count_by test c.spots_in-spot-items.result.now ≤ count_by test l) c.as_slice.ensures.value (c.spots_in-spot-items.ensures.fewer test))
    c.loop-spot.invariant

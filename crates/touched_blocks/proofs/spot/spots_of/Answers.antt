use Rattle.write_cache.specs.Lent.{pieces_left}
use Rattle.touched_blocks.proofs.Joining.{pieces_end, spots_end}
use Rattle.touched_blocks.proofs.spot.spots_of.Goals as goal

pub returns-clause-spots : goal.returns-clause-spots
returns-clause-spots c =
    spots_end c.args.cache.now c.loop-at.spots.items c.put_last.new.spots.items c.loop-at.last (pieces_left c.loop-at.at-iterator) c.in-None.ensures.steps.0
    c.in_ok-put_last.ensures c.loop-at.invariant

pub returns-clause-pieces : goal.returns-clause-pieces
returns-clause-pieces c =
    pieces_end c.args.cache.now c.loop-at.spots.items c.put_last.new.spots.items c.loop-at.last (pieces_left c.loop-at.at-iterator) c.in-None.ensures.steps.0
    c.in_ok-put_last.ensures c.loop-at.invariant

use Rattle.std.proofs.Common.{ap, sym, subst, arith, ◌+◌, ◌≤◌}
use Rattle.chunk_map.specs.SystemArray.{sys_of}
use Rattle.volume_items.specs.ChunkRow.{chunk_of}
use Rattle.volume_items.specs.ChunkItems.{fields_in}
use Rattle.chunk_map.proofs.Pairs.{ArrayLeft, array_begins, array_goes_on, array_stops, array_ends, pair_fits}
use Rattle.chunk_map.proofs.map.ChunkMap.from_sys.Goals as goal

pub loop-at-init : goal.loop-at-init
loop-at-init c = subst (ArrayLeft c.args.sup.now 0) (sym c.new-map.ensures) (array_begins c.args.sup.now)

pub returns-in-Err : goal.returns-in-Err
returns-in-Err c = sym (ap sys_of (array_stops c.args.sup.now c.loop-at.at c.loop-at.map c.in-Err.finding c.loop-at.invariant c.loop-at-test.true c.in-Err.ensures.read))

pub add-requires : goal.add-requires
add-requires c =
    let fits : (chunk_of (fields_in c.in-Ok.pair.item)).start + (chunk_of (fields_in c.in-Ok.pair.item)).length ≤ 18446744073709551615 = pair_fits c.args.sup.now c.loop-at.at (fields_in c.in-Ok.pair.item) c.in-Ok.ensures.read in
    omega (arith, ap (λ k. k.start + k.length) c.chunk.ensures)

pub loop-at-preserved : goal.loop-at-preserved
loop-at-preserved c =
    array_goes_on c.args.sup.now c.loop-at.at c.in-Ok.pair.end c.loop-at.map c.add.new.self (fields_in c.in-Ok.pair.item) c.chunk.result c.loop-at.invariant c.loop-at-test.true c.in-Ok.ensures.read c.chunk.ensures c.in_ok-add.ensures.ok c.in-Ok.ensures.end.0 c.in-Ok.ensures.end.1

pub returns : goal.returns
returns c = sym (ap sys_of (array_ends c.args.sup.now c.loop-at.at c.loop-at.map c.loop-at.invariant c.loop-at-test.false))

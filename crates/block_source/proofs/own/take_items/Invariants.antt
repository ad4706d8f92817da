use Rattle.std.proofs.Common.{◌≡◌}
use Rattle.node_reader.specs.Layout.{items_of}
use Rattle.records.specs.Takes.{held_after}
use Rattle.records.specs.Walk.{leaf_records}
use Rattle.block_source.specs.Private.{items_from}
use Rattle.block_source.proofs.own.take_items.Given as goal

-- what is left of the items gives what all of them give
abbrev pub invariant-loop-i : goal.invariant-loop-i
invariant-loop-i g l =
    let taker = g.T.Taker in
    held_after taker.with (taker.held l.into) (leaf_records l.at (items_from l.block l.i))
    ≡ held_after taker.with (taker.held l.fn.into) (leaf_records l.at (items_of l.block))

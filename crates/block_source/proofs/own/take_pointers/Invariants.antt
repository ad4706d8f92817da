use Rattle.std.proofs.Common.{◌≡◌}
use Rattle.std.specs.List.{fold}
use Rattle.node_reader.specs.Layout.{pointers_of}
use Rattle.records.specs.Walk.{pointer_records}
use Rattle.block_source.specs.Private.{pointers_from}
use Rattle.block_source.proofs.own.take_pointers.Given as goal

-- what is left of the pointers gives what all of them give
abbrev pub invariant-loop-i : goal.invariant-loop-i
invariant-loop-i g l =
    let taker = g.T.Taker in
    fold taker.with (taker.held l.into) (pointer_records l.e (pointers_from l.block l.i))
    ≡ fold taker.with (taker.held l.fn.into) (pointer_records l.e (pointers_of l.block))

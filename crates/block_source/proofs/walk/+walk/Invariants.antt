use Rattle.std.proofs.Common.{◌-◌, ℕ, List}
use Rattle.node_reader.specs.Stored.{stored_in}
use Rattle.records.specs.Walk.{children_of, each, block_and, below, walk_in}
use Rattle.block_source.specs.Private.{pointers_from}
use Rattle.block_source.proofs.Walking.{SoFar, ReadSoFar}
use Rattle.block_source.proofs.walk.+walk.Given as goal

abbrev pub decreases-walk : goal.decreases-walk
decreases-walk g l = l.e.now.level

-- what is left of the children gives what the whole walk gives
abbrev pub invariant-loop-i : goal.invariant-loop-i
invariant-loop-i g l =
    let sup = l.source.sup.now in
    let rest = λ (image : List ℕ). (let stored = stored_in image l.source.map.now sup.nodesize in
    each (block_and (below (l.e.level - 1) sup stored) sup stored) (children_of (l.e.level - 1) l.e (pointers_from l.block l.i))) in
    record {
      taken : SoFar g.D.Disk g.T.Taker l.source.cache.now l.fn.disk l.disk l.fn.into l.into rest (walk_in sup l.source.map.now l.e);
      counted : ReadSoFar g.D.Disk l.source l.fn.disk l.disk rest (walk_in sup l.source.map.now l.e);
    }

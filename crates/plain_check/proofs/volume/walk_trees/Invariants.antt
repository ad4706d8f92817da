use Rattle.std.proofs.Common.{drop}
use Rattle.records.specs.Contents.{tree_records}
use Rattle.block_source.proofs.Walking.{SoFar, ReadSoFar}
use Rattle.plain_check.proofs.volume.walk_trees.Given as goal

-- what is left of the trees gives what all of them give
abbrev pub invariant-loop-root : goal.invariant-loop-root
invariant-loop-root g l =
    let sup = l.volume.sup.now in
    let rest = tree_records sup l.volume.map.now (drop l.root-index l.roots) in
    let whole = tree_records sup l.volume.map.now l.fn.roots in
    record {
      taken : SoFar g.D.Disk g.T.Taker l.volume.cache.now l.fn.disk l.disk l.fn.into l.into rest whole;
      counted : ReadSoFar g.D.Disk l.volume l.fn.disk l.disk rest whole;
    }

use Rattle.std.proofs.Common.{◌≡◌, ◌-◌, ℕ, List, drop}
use Rattle.node_reader.specs.Stored.{stored_in}
use Rattle.records.specs.Walk.{children_of, each}
use Rattle.block_source.specs.Private.{pointers_from}
use Rattle.block_source.proofs.Walking.{ReadSoFar, SoFar}
use Rattle.tree_laws.specs.KeepingWalk.{skip_in}
use Rattle.verdict.specs.Rules.{no_key}
use Rattle.tree_laws.proofs.EndWalk.{EndsSoFar, left_ends}
use Rattle.tree_laws.proofs.MetWalk.{MetSoFar, left_of}
use Rattle.tree_laws.proofs.VisitWalk.{LooksSoFar, left_visits}
use Rattle.tree_laws.specs.Meeting.{met_in}
use Rattle.tree_laws.specs.Visits.{visits_in}
use Rattle.tree_laws.specs.Skips.{nothing, skip_and, skip_below}
use Rattle.shared_trees.proofs.changed.+walk_keeping.Given as goal

abbrev pub decreases-walk_keeping : goal.decreases-walk_keeping
decreases-walk_keeping g l = l.e.now.level

-- what is left of the blocks that are walked below a kept one gives what the whole walk gives
abbrev pub invariant-loop-place : goal.invariant-loop-place
invariant-loop-place g l =
    let sup = l.source.sup.now in
    let kept = g.K.Keeps.keeps l.fn.keeps in
    let anew = g.K.Keeps.anew l.fn.keeps in
    let left = left_ends kept anew (g.K.Keeps.lasts l.fn.keeps) (g.D.Disk.bytes l.fn.disk) l.source.cache.now sup l.source.map.now l.e.level in
    let rest = λ (image : List ℕ). (let stored = stored_in image l.source.map.now sup.nodesize in
    each (skip_and kept nothing anew (skip_below kept nothing anew (l.e.level - 1) sup stored) sup stored) (drop l.place (anew l.e))) in
    record {
      taken : SoFar g.D.Disk g.T.Taker l.source.cache.now l.fn.disk l.disk l.fn.into l.into rest (skip_in kept anew sup l.source.map.now l.e);
      counted : ReadSoFar g.D.Disk l.source l.fn.disk l.disk rest (skip_in kept anew sup l.source.map.now l.e);
      same : g.K.Keeps.keeps l.keeps ≡ kept;
      same_anew : g.K.Keeps.anew l.keeps ≡ anew;
      met : MetSoFar (g.D.Disk.bytes l.fn.disk) l.source.cache.now (g.K.Keeps.met l.fn.keeps) (g.K.Keeps.met l.keeps) (left_of kept anew (g.D.Disk.bytes l.fn.disk) l.source.cache.now sup l.source.map.now l.e.level (drop l.place (anew l.e)))
          (met_in kept anew sup l.source.map.now l.e);
      same_pairs : g.K.Keeps.pairs l.keeps ≡ g.K.Keeps.pairs l.fn.keeps;
      same_lasts : g.K.Keeps.lasts l.keeps ≡ g.K.Keeps.lasts l.fn.keeps;
      same_loan : g.K.Keeps.loan l.keeps ≡ g.K.Keeps.loan l.fn.keeps;
      ended : EndsSoFar (g.D.Disk.bytes l.fn.disk) l.source.cache.now (g.K.Keeps.ended l.fn.keeps) (g.K.Keeps.ended l.keeps) (left (drop l.place (anew l.e)) l.last) (left (anew l.e) no_key);
      looks : LooksSoFar (g.D.Disk.bytes l.fn.disk) l.source.cache.now (g.K.Keeps.looks l.fn.keeps) (g.K.Keeps.looks l.keeps)
          (left_visits kept anew (g.D.Disk.bytes l.fn.disk) l.source.cache.now sup l.source.map.now l.e.level (drop l.place (anew l.e)))
          (visits_in kept anew sup l.source.map.now l.e);
    }

-- what is left of the children gives what the whole walk gives
abbrev pub invariant-loop-i : goal.invariant-loop-i
invariant-loop-i g l =
    let sup = l.source.sup.now in
    let kept = g.K.Keeps.keeps l.fn.keeps in
    let anew = g.K.Keeps.anew l.fn.keeps in
    let left = left_ends kept anew (g.K.Keeps.lasts l.fn.keeps) (g.D.Disk.bytes l.fn.disk) l.source.cache.now sup l.source.map.now l.e.level in
    let rest = λ (image : List ℕ). (let stored = stored_in image l.source.map.now sup.nodesize in
    each (skip_and kept nothing anew (skip_below kept nothing anew (l.e.level - 1) sup stored) sup stored) (children_of (l.e.level - 1) l.e (pointers_from l.block l.i))) in
    record {
      taken : SoFar g.D.Disk g.T.Taker l.source.cache.now l.fn.disk l.disk l.fn.into l.into rest (skip_in kept anew sup l.source.map.now l.e);
      counted : ReadSoFar g.D.Disk l.source l.fn.disk l.disk rest (skip_in kept anew sup l.source.map.now l.e);
      same : g.K.Keeps.keeps l.keeps ≡ kept;
      same_anew : g.K.Keeps.anew l.keeps ≡ anew;
      met : MetSoFar (g.D.Disk.bytes l.fn.disk) l.source.cache.now (g.K.Keeps.met l.fn.keeps) (g.K.Keeps.met l.keeps) (left_of kept anew (g.D.Disk.bytes l.fn.disk) l.source.cache.now sup l.source.map.now l.e.level (children_of (l.e.level - 1) l.e (pointers_from l.block l.i)))
          (met_in kept anew sup l.source.map.now l.e);
      same_pairs : g.K.Keeps.pairs l.keeps ≡ g.K.Keeps.pairs l.fn.keeps;
      same_lasts : g.K.Keeps.lasts l.keeps ≡ g.K.Keeps.lasts l.fn.keeps;
      same_loan : g.K.Keeps.loan l.keeps ≡ g.K.Keeps.loan l.fn.keeps;
      ended : EndsSoFar (g.D.Disk.bytes l.fn.disk) l.source.cache.now (g.K.Keeps.ended l.fn.keeps) (g.K.Keeps.ended l.keeps)
          (left (children_of (l.e.level - 1) l.e (pointers_from l.block l.i)) l.last) (left (children_of (l.e.level - 1) l.e (pointers_from l.block 0)) no_key);
      looks : LooksSoFar (g.D.Disk.bytes l.fn.disk) l.source.cache.now (g.K.Keeps.looks l.fn.keeps) (g.K.Keeps.looks l.keeps)
          (left_visits kept anew (g.D.Disk.bytes l.fn.disk) l.source.cache.now sup l.source.map.now l.e.level (children_of (l.e.level - 1) l.e (pointers_from l.block l.i)))
          (visits_in kept anew sup l.source.map.now l.e);
    }

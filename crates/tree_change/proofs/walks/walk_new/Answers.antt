use Rattle.std.proofs.Common.{ap}
use Rattle.tree_laws.specs.KeepingWalk.{skip_in}
use Rattle.tree_laws.specs.Known.{blocks_met}
use Rattle.live_index.specs.Table.{pairs_of}
use Rattle.tree_laws.proofs.Stopping.{met_none}
use Rattle.tree_change.specs.Gathered.{gathers}
use Rattle.tree_change.specs.Told.{known_by}
use Rattle.tree_change.specs.Walks.{kept_by, listed_by}
use Rattle.tree_change.proofs.Telling.{new_ok, reads_ok}
use Rattle.tree_change.proofs.walks.walk_new.Goals as goal

pub returns-clause-gives : goal.returns-clause-gives
returns-clause-gives g c =
    new_ok (g.D.Disk.bytes c.args.disk.now) c.args.source.now.cache.now (known_by c.args.known.now) c.args.source.now.sup.now
    c.args.source.now.map.now c.args.e.now _ _ _ _ _ _
    c.new-read.ensures (ap blocks_met c.in_ok-with_capacity.ensures.items) c.in_ok-with_capacity-2.ensures.items
    c.in_ok-walk_changed.ensures.taken c.in_ok-walk_changed.ensures.met c.in_ok-walk_changed.ensures.ended

pub returns-clause-reads : goal.returns-clause-reads
returns-clause-reads g c =
    let known = known_by c.args.known.now in
    let source = c.args.source.now in
    reads_ok (g.D.Disk.bytes c.args.disk.now) source.cache.now source
    (skip_in (kept_by known) (listed_by known) source.sup.now source.map.now c.args.e.now) (gathers c.new-read.result)
    (gathers c.walk_changed.new.into) _ _
    c.new-read.ensures c.in_ok-walk_changed.ensures.taken c.in_ok-walk_changed.ensures.reads

pub invariant_of-keeps : goal.invariant_of-keeps
invariant_of-keeps g c = record {
  held = met_none (pairs_of c.args.known.now.table.now) _ c.in_ok-with_capacity.ensures.items;
  walks = tt;
  stands = tt;
}

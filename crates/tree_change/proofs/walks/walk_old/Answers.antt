use Rattle.std.proofs.Common.{rules}
use Rattle.block_source.specs.declared.read.BlockSource.{BlockSource}
use Rattle.tree_laws.specs.KeepingWalk.{skip_in}
use Rattle.tree_laws.specs.Known.{blocks_met}
use Rattle.shared_trees.specs.OldTrees.{is_stopped}
use Rattle.tree_laws.specs.Stopping.{kept_among}
use Rattle.tree_change.specs.Gathered.{gathers}
use Rattle.tree_change.specs.Told.{known_by}
use Rattle.tree_change.specs.Walks.{listed_by}
use Rattle.tree_change.proofs.Looking.{old_few}
use Rattle.tree_change.proofs.Telling.{old_halts, old_ok, reads_one}
use Rattle.tree_change.proofs.walks.walk_old.Goals as goal

pub returns-clause-gives : goal.returns-clause-gives
returns-clause-gives g c =
    let source = c.args.source.now in
    old_ok (g.D.Disk.bytes c.args.disk.now) source.cache.now (known_by c.args.known.now) (is_stopped c.in_ok-stops.stops)
    (blocks_met c.args.met.now) source.sup.now source.map.now c.args.firsts.now c.args.e.now _ _ c.requires.once c.new-read.ensures
    c.in_ok-stops.ensures.stops c.in_ok-walk_changed.ensures.taken

pub returns-clause-reads : goal.returns-clause-reads
returns-clause-reads g c =
    let known = known_by c.args.known.now in
    let source = c.args.source.now in
    let first : BlockSource = record { cache = source.cache; map = c.args.firsts; sup = source.sup; end = source.end } in
    reads_one (g.D.Disk.bytes c.args.disk.now) source.cache.now first source.map.now c.requires.once
    (skip_in (kept_among known.pairs (is_stopped c.in_ok-stops.stops) known.under) (listed_by known) source.sup.now c.args.firsts.now
    c.args.e.now)
    (gathers c.new-read.result) (gathers c.walk_changed.new.into) _ _
    c.new-read.ensures c.in_ok-walk_changed.ensures.taken c.in_ok-walk_changed.ensures.reads

pub returns-in_err-walk_changed-clause-gives : goal.returns-in_err-walk_changed-clause-gives
returns-in_err-walk_changed-clause-gives g c =
    let known = known_by c.args.known.now in
    let source = c.args.source.now in
    old_halts g.D.Disk c.args.disk.now source.cache.now known (is_stopped c.in_ok-stops.stops)
    (blocks_met c.args.met.now) source.sup.now source.map.now c.args.firsts.now c.args.e.now (gathers c.new-read.result)
    c.in_err-walk_changed.field-0.0 _ c.requires.once (search rules) c.in_ok-stops.ensures.stops c.in_err-walk_changed.ensures.taken

pub returns-clause-looks : goal.returns-clause-looks
returns-clause-looks g c =
    let source = c.args.source.now in
    let few =
    old_few (g.D.Disk.bytes c.args.disk.now) source.cache.now (known_by c.args.known.now) (is_stopped c.in_ok-stops.stops)
    (blocks_met c.args.met.now) source.sup.now source.map.now c.args.firsts.now c.args.e.now _ _ c.requires.once c.in_ok-stops.ensures.stops
    c.in_ok-walk_changed.ensures.looks in
    search (few, rules)

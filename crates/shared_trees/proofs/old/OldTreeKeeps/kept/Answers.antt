use Rattle.live_index.specs.Table.{pairs_of}
use Rattle.shared_trees.specs.OldTrees.{is_stopped}
use Rattle.shared_trees.specs.Under.{under_of}
use Rattle.tree_laws.proofs.Stopping.{kept_stop}
use Rattle.shared_trees.proofs.old.OldTreeKeeps.kept.Goals as goal

pub returns-clause-value : goal.returns-clause-value
returns-clause-value g c =
    kept_stop (pairs_of c.args.self.now.table.now) (is_stopped c.args.self.now.stops.now) (under_of c.args.self.now.starts.now) c.args.e.now
    c.in-Some.stop.now.expect c.in-Some.stop.now.live _ c.bound_in.result c.if-stop-e.true c.if-stop-e-2.true c.in-Some.ensures.stop
    (c.in-Some.ensures.known (pairs_of c.args.self.now.table.now) c.args.self.now.held) c.as_ref.ensures.value c.bound_in.ensures.value

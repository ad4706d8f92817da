use Rattle.live_index.specs.Table.{pairs_of}
use Rattle.tree_laws.proofs.Stopping.{met_none}
use Rattle.whole_runs.proofs.tree_tests.known_by.Goals as goal

pub invariant_of-result : goal.invariant_of-result
invariant_of-result c = record {
  held = met_none (pairs_of c.args.table.now) _ c.new.ensures.items;
  walks = tt;
  stands = tt;
}

use Rattle.recon_core.proofs.Nothing.{below_where_none}
use Rattle.whole_runs.proofs.machine_tests.looks_of_settle.Goals as goal

pub event-requires-clause-below : goal.event-requires-clause-below
event-requires-clause-below g c = below_where_none c.args.checker.now.length c.args.checker.now.cache c.requires.empty

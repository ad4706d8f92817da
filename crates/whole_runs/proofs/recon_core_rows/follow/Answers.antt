use Rattle.recon_core.proofs.Nothing.{below_where_none}
use Rattle.whole_runs.proofs.recon_core_rows.follow.Goals as goal

pub take-first-requires-clause-below : goal.take-first-requires-clause-below
take-first-requires-clause-below g c = below_where_none c.args.checker.now.length c.args.checker.now.cache c.requires.empty

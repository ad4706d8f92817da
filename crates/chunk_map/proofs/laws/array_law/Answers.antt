use Rattle.chunk_map.proofs.Orders.{never_run_out}
use Rattle.chunk_map.proofs.laws.array_law.Goals as goal

pub returns : goal.returns
returns c = never_run_out

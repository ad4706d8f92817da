use Rattle.chunk_map.proofs.Orders.{orders_by_start}
use Rattle.chunk_map.proofs.laws.order_by_start_law.Goals as goal

pub returns : goal.returns
returns c = orders_by_start

use Rattle.std.proofs.Common.{ap}
use Rattle.std.specs.BTreeMap.{is_at}
use Rattle.std.specs.List.{list_any}
use Rattle.std.specs.Map.{lookup}
use Rattle.live_index.specs.Orders.{by_address, by_first, first_at, has_address}
use Rattle.live_index.proofs.orders.Orders.new.Goals as goal

-- src/orders.rt:24:5
pub returns-clause-addresses : goal.returns-clause-addresses
unfolding has_address
returns-clause-addresses c = λ place. ap (list_any (is_at (by_address place))) c.new.ensures.empty

-- src/orders.rt:24:5
pub returns-clause-keys : goal.returns-clause-keys
unfolding first_at
returns-clause-keys c = λ place. ap (lookup (is_at (by_first place))) c.new-2.ensures.empty

use Rattle.std.proofs.Common.{arith}
use Rattle.std.proofs.lemmas.Grind.{common_steps}
use Rattle.std.specs.Prelude.{None, false}
use Rattle.live_index.specs.Orders.{first_at, has_address}
use Rattle.live_index.proofs.PlaceLaws.{map_key, set_address}
use Rattle.live_index.proofs.orders.Orders.take.Goals as goal

-- src/orders.rt:54:5
pub returns : goal.returns
unfolding first_at has_address
returns c = record {
  addresses = λ place. set_address c.args.self.now.by_address c.remove.new.self false _ c.args.live.now (grind (arith, common_steps)) c.remove.ensures.updates place;
  keys = λ place. map_key c.args.self.now.by_first c.remove-2.new.self None _ c.args.live.now (grind (arith, common_steps)) c.remove-2.ensures.updates place;
}

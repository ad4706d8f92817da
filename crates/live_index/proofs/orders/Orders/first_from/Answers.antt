use Rattle.live_index.specs.Orders.{has_address}
use Rattle.live_index.proofs.PlaceLaws.{first_from, none_from}
use Rattle.live_index.proofs.orders.Orders.first_from.Goals as goal

-- src/orders.rt:84:21
pub returns-in_err-place : goal.returns-in_err-place
unfolding has_address
returns-in_err-place c =
    rw c.from_residual.ensures (none_from c.args.self.now.by_address _ c.range.result (c.range.ensures.in_range tt) c.in_err-place.ensures.steps.0)

-- src/orders.rt:81:5
pub returns : goal.returns
unfolding has_address
returns c = first_from c.args.self.now.by_address _ c.range.result (c.range.ensures.in_range tt) c.in_ok-place.place.now c.next.new.self c.in_ok-place.ensures.steps

use Rattle.std.proofs.Common.{◌≤◌, arith}
use Rattle.live_index.specs.Orders.{first_at}
use Rattle.live_index.proofs.PlaceLaws.{next_is, no_key_after}
use Rattle.live_index.proofs.orders.Orders.next_key.Goals as goal

-- src/orders.rt:98:26
pub returns-in_err-place : goal.returns-in_err-place
unfolding first_at
returns-in_err-place c =
    rw c.from_residual.ensures (no_key_after c.args.self.now.by_first c.args.tree c.args.level c.args.first 18446744073709551615 c.range.result (c.range.ensures.in_range tt) c.in_err-place.ensures.steps.0)

-- src/orders.rt:89:5
pub returns : goal.returns
unfolding first_at
returns c =
    let low : c.in_ok-place.place.now.address ≤ 18446744073709551615 = omega (arith, c.key_in.ensures.small) in
    next_is c.args.self.now.by_first c.args.tree c.args.level c.args.first 18446744073709551615 c.range.result (c.range.ensures.in_range tt) (c.in_ok-place.place.now, c.in_ok-place.field-0-1.now) c.next.new.self c.in_ok-place.ensures.steps
    low c.key_in.result c.key_in.ensures.value

use Rattle.std.proofs.Common.{◌∙◌, ap}
use Rattle.std.specs.BTreeMap.{is_at}
use Rattle.std.specs.Map.{lookup}
use Rattle.std.specs.Prelude.{Some, true, false, cond}
use Rattle.live_index.specs.Orders.{by_first, first_at, has_address, is_address_of}
use Rattle.live_index.proofs.PlaceLaws.{map_key, set_address, undone_address}
use Rattle.live_index.proofs.orders.Orders.add.Goals as goal

-- src/orders.rt:35:5
pub returns-in-Ok-clause-ok : goal.returns-in-Ok-clause-ok
unfolding first_at has_address
returns-in-Ok-clause-ok c = record {
  addresses = λ place. set_address c.args.self.now.by_address c.insert.new.self true _ c.args.live.now c.address_of-address.ensures c.in_ok-insert.ensures.updates place;
  keys = λ place. map_key c.args.self.now.by_first c.insert-2.new.self (Some c.args.live.now) _ c.args.live.now c.key_of.ensures c.in-Ok.ensures.updates place;
}

-- src/orders.rt:35:5
pub returns-in-Err-clause-err : goal.returns-in-Err-clause-err
unfolding first_at has_address
returns-in-Err-clause-err c = record {
  addresses = λ place.
      set_address c.insert.new.self c.remove.new.self false _ c.args.live.now c.address_of-address.ensures c.remove.ensures.updates place
      ∙ ap (cond (is_address_of c.args.live.now place) false)
      (set_address c.args.self.now.by_address c.insert.new.self true _ c.args.live.now c.address_of-address.ensures c.in_ok-insert.ensures.updates place)
      ∙ undone_address c.args.self.now.by_address c.args.live.now c.requires place;
  keys = λ place. ap (lookup (is_at (by_first place))) c.in-Err.ensures.err;
}

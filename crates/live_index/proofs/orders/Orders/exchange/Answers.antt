use Rattle.std.proofs.Common.{◌≡◌, ◌∙◌, ap, sym}
use Rattle.std.proofs.lemmas.Bool.{not-false, not-true}
use Rattle.std.specs.BTreeMap.{is_at}
use Rattle.std.specs.Map.{lookup}
use Rattle.std.specs.Prelude.{Some, None, false, cond}
use Rattle.live_index.specs.Orders.{AreKept, by_first, first_at, has_address, is_key_of, key_place}
use Rattle.verdict.proofs.Answers.{on_err}
use Rattle.live_index.proofs.PlaceLaws.{map_key, moved_other, moved_same, same_key, same_place}
use Rattle.live_index.proofs.orders.Orders.exchange.Goals as goal

-- src/orders.rt:63:5
pub returns-then-ne-clause-ok : goal.returns-then-ne-clause-ok
unfolding first_at has_address
returns-then-ne-clause-ok c =
    let apart : same_place (key_place c.args.from.now) (key_place c.args.to.now) ≡ false =
    ap (λ x. same_place x (key_place c.args.to.now)) (sym c.key_of-old.ensures) ∙ ap (same_place c.key_of-old.result) (sym c.key_of-new.ensures) ∙ not-true _ (sym c.if-ne.ensures) in
    record {
      addresses = λ place i. has_address c.args.self.now place;
      keys = λ place.
          map_key c.insert.new.self c.remove.new.self None _ c.args.from.now c.key_of-old.ensures c.remove.ensures.updates place
          ∙ ap (cond (is_key_of c.args.from.now place) None)
          (map_key c.args.self.now.by_first c.insert.new.self (Some c.args.to.now) _ c.args.to.now c.key_of-new.ensures c.in_ok-insert.ensures.updates place)
          ∙ moved_other c.args.self.now.by_first c.args.from.now c.args.to.now apart place;
    }

-- src/orders.rt:63:5
pub returns-else-ne-clause-ok : goal.returns-else-ne-clause-ok
unfolding first_at has_address
returns-else-ne-clause-ok c =
    let alike : key_place c.args.from.now ≡ key_place c.args.to.now =
    sym c.key_of-old.ensures ∙ same_key c.key_of-old.result c.key_of-new.result (not-false _ (sym c.if-ne.ensures)) ∙ c.key_of-new.ensures in
    record {
      addresses = λ place i. has_address c.args.self.now place;
      keys = λ place.
          map_key c.args.self.now.by_first c.insert.new.self (Some c.args.to.now) _ c.args.to.now c.key_of-new.ensures c.in_ok-insert.ensures.updates place
          ∙ moved_same c.args.self.now.by_first c.args.from.now c.args.to.now alike place;
    }

-- src/orders.rt:63:5
pub returns-in_err-insert-clause-err : goal.returns-in_err-insert-clause-err
unfolding first_at has_address
returns-in_err-insert-clause-err c =
    let kept : AreKept c.args.self.now (record { by_address = c.args.self.now.by_address; by_first = c.insert.new.self }) = record {
      addresses = λ place i. has_address c.args.self.now place;
      keys = λ place. ap (lookup (is_at (by_first place))) c.in_err-insert.ensures.err;
    } in
    on_err _ kept

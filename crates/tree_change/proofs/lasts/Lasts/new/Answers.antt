use Rattle.std.proofs.Common.{◌≡◌, rules}
use Rattle.std.proofs.lemmas.Fn.{always_returns_same}
use Rattle.std.proofs.lemmas.List.Sorted.{IsNonDecreasingBy-from_sort_by_key}
use Rattle.tree_change.specs.declared.lasts.LastKey.{LastKey}
use Rattle.tree_change.specs.Leaves.{last_in}
use Rattle.tree_change.proofs.LastKeys.{key_sorted}
use Rattle.tree_change.proofs.lasts.Lasts.new.Goals as goal

pub invariant_of-result : goal.invariant_of-result
invariant_of-result c = record {
  order = IsNonDecreasingBy-from_sort_by_key (λ (one : LastKey). one.address) c.sort_by_key.new.self.items c.in-Ok.ensures.sorted
      (λ a r q k. search rules);
}

pub returns-in-Ok : goal.returns-in-Ok
unfolding last_in
returns-in-Ok c = λ address.
    key_sorted address c.args.ended.now c.in_ok-keys.keys.items c.sort_by_key.new.self.items c.in_ok-keys.ensures
    (c.sort_by_key.ensures.stable (λ (one : LastKey). one.address)
    (always_returns_same _ (λ a r. r ≡ a.0.now.address) _ (λ a r q k. search rules)))

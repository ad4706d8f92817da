use Rattle.std.proofs.Common.{Bool, refl, rules}
use Rattle.records.specs.declared.rec.ItemAt.{ItemAt}
use Rattle.tree_change.specs.Change.{item_before}
use Rattle.tree_change.specs.Gathered.{located_item}
use Rattle.tree_change.proofs.Merges.{item_test, item_total, sorted_for, sorted_in, sorted_of}
use Rattle.tree_change.proofs.merge.sort_items.Goals as goal

-- an item's place by its tree and key
abbrev comes_before : ItemAt → ItemAt → Bool
comes_before a b = item_before (located_item a) (located_item b)

pub returns-in-Ok : goal.returns-in-Ok
returns-in-Ok c =
    sorted_for located_item comes_before item_before (λ a b. refl) _ _
    (sorted_in comes_before c.args.items.now.items c.as_mut_slice.result.now c.sort_by_key.new.self c.args.items.now.len
    c.as_mut_slice.ensures.value c.sort_by_key.ensures.len c.as_mut_slice.ensures.len
    (sorted_of (λ (item : ItemAt). (item.tree, item.key)) item_total comes_before (λ a b. item_test a.tree b.tree a.key b.key) _ _
    c.in-Ok.ensures.permutation c.in-Ok.ensures.sorted (λ a r q k. search rules)))

use Rattle.std.proofs.Common.{rules}
use Rattle.volume_items.specs.declared.root_at.RootAt.{RootAt}
use Rattle.tree_change.proofs.Merges.{key_before, key_total, sorted_of}
use Rattle.tree_laws.specs.MergedLaw.{root_before}
use Rattle.tree_change.proofs.merge.sort_roots.Goals as goal

pub returns : goal.returns
returns c =
    sorted_of (λ (root : RootAt). root.key) key_total root_before (λ a b. key_before a.key b.key) _ _
    c.sort_unstable_by_key.ensures.permutation c.sort_unstable_by_key.ensures.sorted (λ a r q k. search rules)

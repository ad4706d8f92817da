use Rattle.std.proofs.Common.{◌≡◌, ◌++◌, not, take}
use Rattle.std.specs.BTreeSet.{contains}
use Rattle.std.specs.List.{filter}
use Rattle.volume_items.specs.declared.root_at.RootAt.{RootAt}
use Rattle.live_index.specs.Orders.{by_key}
use Rattle.tree_change.proofs.merge.keep_roots.Given as goal

-- those of the trees so far are kept
abbrev pub invariant-loop-root : goal.invariant-loop-root
invariant-loop-root l =
    l.into.items ≡ l.initial.into.items ++ filter (λ (root : RootAt). not (contains by_key l.keys root.key)) (take l.root-index l.old)

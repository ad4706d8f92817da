use Rattle.std.proofs.Common.{◌≡◌, ◌++◌, map, take}
use Rattle.tree_change.specs.Gathered.{located_item}
use Rattle.tree_change.specs.Merging.{roots_among}
use Rattle.tree_change.proofs.merge.add_roots.Given as goal

-- the trees among the items so far are added
abbrev pub invariant-loop-item : goal.invariant-loop-item
invariant-loop-item l = l.into.items ≡ l.initial.into.items ++ roots_among (map located_item (take l.item-index l.items))

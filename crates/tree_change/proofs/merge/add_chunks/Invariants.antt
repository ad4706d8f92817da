use Rattle.std.proofs.Common.{◌≡◌, ◌++◌, map, take}
use Rattle.tree_change.specs.Gathered.{located_item}
use Rattle.tree_change.specs.Merging.{chunks_among}
use Rattle.tree_change.proofs.merge.add_chunks.Given as goal

-- the chunks among the items so far are added
abbrev pub invariant-loop-item : goal.invariant-loop-item
invariant-loop-item l = l.into.items ≡ l.initial.into.items ++ chunks_among (map located_item (take l.item-index l.items))

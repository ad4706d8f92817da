use Rattle.std.proofs.Common.{◌≡◌, map, take}
use Rattle.std.specs.BTreeSet.{contains}
use Rattle.verdict.specs.declared.key.Key.{Key}
use Rattle.live_index.specs.Orders.{by_key}
use Rattle.tree_change.specs.Gathered.{located_item}
use Rattle.tree_change.specs.Merges.{has_key}
use Rattle.tree_change.specs.Merging.{roots_among}
use Rattle.tree_change.proofs.merge.keys_of.Given as goal

-- the keys of the items so far are held
abbrev pub invariant-loop-item : goal.invariant-loop-item
invariant-loop-item l = (key : Key) → contains by_key l.keys key ≡ has_key (roots_among (map located_item (take l.item-index l.items))) key

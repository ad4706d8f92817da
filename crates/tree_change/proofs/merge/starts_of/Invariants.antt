use Rattle.std.proofs.Common.{◌≡◌, ℕ, map, take}
use Rattle.std.specs.BTreeSet.{contains}
use Rattle.std.specs.Ordering.{nat_cmp}
use Rattle.tree_change.specs.Gathered.{located_item}
use Rattle.tree_change.specs.Merges.{has_start}
use Rattle.tree_change.specs.Merging.{chunks_among}
use Rattle.tree_change.proofs.merge.starts_of.Given as goal

-- the starts of the items so far are held
abbrev pub invariant-loop-item : goal.invariant-loop-item
invariant-loop-item l = (start : ℕ) → contains nat_cmp l.starts start ≡ has_start (chunks_among (map located_item (take l.item-index l.items))) start

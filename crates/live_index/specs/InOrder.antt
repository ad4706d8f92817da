-- A map of pairs by tree and address. It serves to state what private functions keep.
use Rattle.std.specs.Prelude.{ℕ, Option, Some, None}
use Rattle.std.specs.BTreeMap as map
use Rattle.std.specs.declared.ops.Bound.{Bound}
use Rattle.std.specs.declared.ops.Bound.TheVariants.{Included, Excluded}
use Rattle.live_index.specs.declared.live.Live.{Live}
use Rattle.live_index.specs.declared.places.ByTree.{ByTree}
use Rattle.live_index.specs.Orders.{by_tree}
use Rattle.live_index.specs.Pairs.{Pairs}

-- where the pair of a tree at an address stands
abbrev pub place_of : ℕ → ℕ → ByTree
place_of tree address = record { tree = tree; address = address }

-- where the pairs of a tree begin that stand above an address, where one is given
abbrev pub start_of : ℕ → Option ℕ → Bound ByTree
start_of tree None = Included (place_of tree 0)
start_of tree (Some after) = Excluded (place_of tree after)

-- the pairs that the map has
unfoldable pub pairs_in : map.BTreeMap ByTree Live → Pairs
pairs_in pairs tree address = map.get by_tree pairs (place_of tree address)

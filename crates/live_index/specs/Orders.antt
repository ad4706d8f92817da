-- Where pairs stand in the three orders that are kept of them. It serves to state what private functions keep.
use Rattle.std.specs.Prelude.{◌≡◌, ℕ, Bool, true, false, ◌&&◌, ◌==◌, Option, Some, None, is_some, if◌then◌else◌}
use Rattle.std.specs.Option.{ForSome}
use Rattle.std.specs.Ordering.{nat_cmp, ordering_then}
use Rattle.std.specs.declared.cmp.Ordering.{Ordering}
use Rattle.std.specs.BTreeMap as map
use Rattle.std.specs.BTreeSet as set
use Rattle.verdict.specs.OnDisk.{key_below, key_same}
use Rattle.verdict.specs.declared.key.Key.{Key}
use Rattle.live_index.specs.declared.live.Live.{Live}
use Rattle.live_index.specs.declared.places.ByTree.{ByTree}
use Rattle.live_index.specs.declared.places.ByAddress.{ByAddress}
use Rattle.live_index.specs.declared.places.ByFirst.{ByFirst}
use Rattle.live_index.specs.declared.orders.Orders.{Orders}
use Rattle.live_index.specs.Pairs.{Pairs, comes_before, has_first}

-- the three orders
abbrev pub by_tree : ByTree → ByTree → Ordering
by_tree x y = ordering_then (nat_cmp x.tree y.tree) (nat_cmp x.address y.address)

abbrev pub by_address : ByAddress → ByAddress → Ordering
by_address x y = ordering_then (nat_cmp x.address y.address) (nat_cmp x.tree y.tree)

abbrev pub by_key : Key → Key → Ordering
by_key x y = ordering_then (nat_cmp x.objectid y.objectid) (ordering_then (nat_cmp x.kind y.kind) (nat_cmp x.offset y.offset))

abbrev pub by_first : ByFirst → ByFirst → Ordering
by_first x y =
    ordering_then (nat_cmp x.tree y.tree)
    (ordering_then (nat_cmp x.level y.level) (ordering_then (by_key x.first y.first) (nat_cmp x.address y.address)))

-- whether the order by address has a place
unfoldable pub has_address : Orders → ByAddress → Bool
has_address orders place = set.contains by_address orders.by_address place

-- the pair that the order by first key has at a place, and whether it has one there
unfoldable pub first_at : Orders → ByFirst → Option Live
first_at orders place = map.get by_first orders.by_first place

abbrev pub has_key : Orders → ByFirst → Bool
has_key orders place = is_some (first_at orders place)

-- a pair where it has this level and this first key
abbrev pub with_first : ℕ → Key → Option Live → Option Live
with_first level key y = if has_first level key y then y else None

-- whether a place is that of a pair
abbrev pub is_address_of : Live → ByAddress → Bool
is_address_of live place = live.address == place.address && live.tree == place.tree

abbrev pub is_key_of : Live → ByFirst → Bool
is_key_of live place =
    live.tree == place.tree && (live.level == place.level && (key_same live.first place.first && live.address == place.address))

-- The orders say the same as the table: each pair stands under its own tree and address, and the other two orders have
-- exactly the places of the pairs. The order by first key has the pairs themselves.
pub record AreAlike (pairs : Pairs) (orders : Orders) : Type 0 where
  pub own : (tree address : ℕ) → ForSome (pairs tree address) (λ live. (live.tree ≡ tree) × (live.address ≡ address))
  pub addresses : (place : ByAddress) → has_address orders place ≡ is_some (pairs place.tree place.address)
  pub keys : (place : ByFirst) → first_at orders place ≡ with_first place.level place.first (pairs place.tree place.address)

-- the later orders have the places of the earlier ones and those of a pair, which stands at its key
pub record AreAdded (old new : Orders) (live : Live) : Type 0 where
  pub addresses : (place : ByAddress) → has_address new place ≡ (if is_address_of live place then true else has_address old place)
  pub keys : (place : ByFirst) → first_at new place ≡ (if is_key_of live place then Some live else first_at old place)

-- the later orders have the places of the earlier ones without those of a pair
pub record AreTaken (old new : Orders) (live : Live) : Type 0 where
  pub addresses : (place : ByAddress) → has_address new place ≡ (if is_address_of live place then false else has_address old place)
  pub keys : (place : ByFirst) → first_at new place ≡ (if is_key_of live place then None else first_at old place)

-- the later orders have a pair at its key in the place of another
pub record AreMoved (old new : Orders) (from to : Live) : Type 0 where
  pub addresses : (place : ByAddress) → has_address new place ≡ has_address old place
  pub keys : (place : ByFirst)
      → first_at new place ≡ (if is_key_of to place then Some to else (if is_key_of from place then None else first_at old place))

-- the later orders have the places of the earlier ones, and the same pairs
pub record AreKept (old new : Orders) : Type 0 where
  pub addresses : (place : ByAddress) → has_address new place ≡ has_address old place
  pub keys : (place : ByFirst) → first_at new place ≡ first_at old place

-- where a pair stands by address, and where by its first key
abbrev pub address_place : Live → ByAddress
address_place live = record { address = live.address; tree = live.tree }

abbrev pub key_place : Live → ByFirst
key_place live = record { tree = live.tree; level = live.level; first = live.first; address = live.address }

-- the least place from an address and a tree on
abbrev pub IsFirstFrom : Orders → ℕ → ℕ → Option ByAddress → Type 0
IsFirstFrom orders address tree None =
    (place : ByAddress) → comes_before place.address place.tree address tree ≡ false → has_address orders place ≡ false
IsFirstFrom orders address tree (Some first) =
    (has_address orders first ≡ true)
    × (comes_before first.address first.tree address tree ≡ false)
    × ((place : ByAddress) → comes_before place.address place.tree address tree ≡ false
    → comes_before place.address place.tree first.address first.tree ≡ true → has_address orders place ≡ false)

-- the least key above a key of a tree and a level
abbrev pub IsNextKey : Orders → ℕ → ℕ → Key → Option Key → Type 0
IsNextKey orders tree level key None =
    (a : ℕ) (k : Key) → key_below key k ≡ true
    → has_key orders (record { tree = tree; level = level; first = k; address = a }) ≡ false
IsNextKey orders tree level key (Some next) =
    (key_below key next ≡ true)
    × ((a : ℕ) × (has_key orders (record { tree = tree; level = level; first = next; address = a }) ≡ true))
    × ((a : ℕ) (k : Key) → key_below key k ≡ true → key_below k next ≡ true
    → has_key orders (record { tree = tree; level = level; first = k; address = a }) ≡ false)

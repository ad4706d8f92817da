-- Which items of two lists differ. An item stands under its tree and its key.
use Rattle.std.specs.Prelude.{◌≡◌, ℕ, Bool, true, ◌&&◌, ◌||◌, ◌==◌, nat_lt, List, slice_get, Option, Some}
use Rattle.std.specs.List.{AllPairs, Contains, filter_map}
use Rattle.verdict.specs.OnDisk.{key_below}
use Rattle.records.specs.declared.rec.ItemAt.{ItemAt}
use Rattle.records.specs.Part.{owned_part}
use Rattle.change_records.specs.declared.changes.ItemChange.{ItemChange}
use Rattle.change_records.specs.declared.changes.ItemChange.TheVariants.{Added, Removed, Altered}

-- whether an item stands before another: by tree, and in one tree by key
unfoldable pub is_before : ItemAt → ItemAt → Bool
is_before one other = nat_lt one.tree other.tree || (one.tree == other.tree && key_below one.key other.key)

-- two items stand under one tree and key
abbrev pub HaveOneKey : ItemAt → ItemAt → Type 0
HaveOneKey one other = (one.tree ≡ other.tree) × (one.key ≡ other.key)

-- no item of a list stands under the tree and key of an item
abbrev pub HasNone : List ItemAt → ItemAt → Type 0
HasNone items one = (k : ℕ) (other : ItemAt) → slice_get items k ≡ Some other → HaveOneKey one other → ⊥

-- items ascend strictly
abbrev pub Ascend : List ItemAt → Type 0
Ascend items = AllPairs (λ one later. is_before one later ≡ true) items

-- What a change says of two lists. Its numbers are places in them. Added: an item of the new list whose tree and key no old one has.
-- Removed: an item of the old list whose tree and key no new one has. Altered: both have an item of that tree and key, and the two say
-- different things. What an item says is what its record says: the bytes that no reader looks at, and the block, are not among that.
abbrev pub IsChange : List ItemAt → List ItemAt → ItemChange → Type 0
IsChange old new (Added at) = (one : ItemAt) × (slice_get new at ≡ Some one) × HasNone old one
IsChange old new (Removed at) = (one : ItemAt) × (slice_get old at ≡ Some one) × HasNone new one
IsChange old new (Altered was is) =
    (one : ItemAt) × (other : ItemAt) × (slice_get old was ≡ Some one) × (slice_get new is ≡ Some other)
    × HaveOneKey one other
    × (owned_part one.part ≡ owned_part other.part → ⊥)

-- an item of the tree and key that a change is about
abbrev pub item_of : List ItemAt → List ItemAt → ItemChange → Option ItemAt
item_of old new (Added at) = slice_get new at
item_of old new (Removed at) = slice_get old at
item_of old new (Altered was is) = slice_get old was

-- changes are all changes of two lists, by tree and key, none twice
pub record AreChanges (old new : List ItemAt) (changes : List ItemChange) : Type 0 where
  pub hold : (change : ItemChange) → Contains changes change → IsChange old new change
  pub all : (change : ItemChange) → IsChange old new change → Contains changes change
  pub ascend : Ascend (filter_map (item_of old new) changes)

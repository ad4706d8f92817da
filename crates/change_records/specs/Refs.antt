-- What changes name: the trees and keys of their items.
use Rattle.std.specs.Prelude.{ℕ, Bool, false, ◌&&◌, ◌||◌, ◌==◌, List, slice_get, Option, Some, None}
use Rattle.std.specs.List.{list_any}
use Rattle.std.specs.Ordering.{nat_cmp, ordering_then}
use Rattle.std.specs.declared.cmp.Ordering.{Ordering}
use Rattle.verdict.specs.OnDisk.{key_same}
use Rattle.verdict.specs.declared.key.Key.{Key}
use Rattle.records.specs.declared.rec.ItemAt.{ItemAt}
use Rattle.change_records.specs.declared.changes.ItemChange.{ItemChange}
use Rattle.change_records.specs.declared.changes.ItemChange.TheVariants.{Added, Removed, Altered}
use Rattle.change_records.specs.declared.item_ref.ItemRef.{ItemRef}

-- the order by tree and key
abbrev pub ref_cmp : ItemRef → ItemRef → Ordering
ref_cmp a b =
    ordering_then (nat_cmp a.tree b.tree)
    (ordering_then (nat_cmp a.key.objectid b.key.objectid)
    (ordering_then (nat_cmp a.key.kind b.key.kind) (nat_cmp a.key.offset b.key.offset)))

-- the item of a tree and a key
abbrev pub ref_to : ℕ → Key → ItemRef
ref_to tree key = record { tree = tree; key = key }

-- whether there is an item, and it stands under a tree and a key
abbrev pub stands_at : ItemRef → Option ItemAt → Bool
stands_at at None = false
stands_at at (Some item) = item.tree == at.tree && key_same item.key at.key

-- whether a change of two lists names an item, by its places in them
abbrev pub names : List ItemAt → List ItemAt → ItemRef → ItemChange → Bool
names old new at (Added is) = stands_at at (slice_get new is)
names old new at (Removed was) = stands_at at (slice_get old was)
names old new at (Altered was is) = stands_at at (slice_get old was) || stands_at at (slice_get new is)

-- whether one of some changes names an item
unfoldable pub is_named : List ItemAt → List ItemAt → List ItemChange → ItemRef → Bool
is_named old new changes at = list_any (names old new at) changes

-- The BLOCK_GROUP_ITEM (start, 192, length): its fields, and the rules that it is judged by, in their order.
-- Offsets are in bytes from the item's first byte.
use Rattle.std.specs.Prelude.{ℕ, Bool, true, false, not, ◌&&◌, ◌==◌, List, [], ◌∷◌, length, Result}
use Rattle.recon_bytes.specs.Field.{field}
use Rattle.verdict.specs.Rules.{TableRow, first_failing, finding_or}
use Rattle.verdict.specs.Items.{is_listed, item_rule}
use Rattle.verdict.specs.Trees.{has_group_tree}
use Rattle.verdict.specs.declared.key.Key.{Key}
use Rattle.verdict.specs.declared.finding.Finding.{Finding}
use Rattle.verdict.specs.declared.finding.Family.TheVariants.{I, U}
use Rattle.verdict.specs.declared.place.At.{At}
use Rattle.verdict.specs.declared.place.TreeSort.{TreeSort}
use Rattle.verdict.specs.declared.place.TreeSort.TheVariants.{Extent}
use Rattle.extent_items.specs.declared.group.GroupItem.{GroupItem}

-- whether a tree is that of the extents
abbrev pub is_extent_tree : TreeSort → Bool
is_extent_tree Extent = true
is_extent_tree other = false

-- whether a tree lists the block group with this key: that of the extents, unless block groups have a tree of their own
abbrev pub lists_group : At → Key → Bool
lists_group at key = is_listed at.sort key && not (is_extent_tree at.sort && has_group_tree at.compat_ro)

-- the rules in their order: the tree lists the item, the key's length, and the size
unfoldable pub group_rows : At → Key → List ℕ → List TableRow
group_rows at key bytes =
    item_rule at key (not (lists_group at key)) U 9 key.kind
    ∷ item_rule at key (key.offset == 0) I 2 0
    ∷ item_rule at key (not (length bytes == 24)) I 1 (length bytes)
    ∷ []

-- the fields of a block group item
abbrev pub group_fields : Key → List ℕ → GroupItem
group_fields key bytes = record { key = key; used = field 8 bytes 0; flags = field 8 bytes 16 }

-- what a block group item says at its place: the finding of the first rule that fails, else its fields
unfoldable pub group_row : At → Key → List ℕ → Result GroupItem Finding
group_row at key bytes = finding_or (first_failing (group_rows at key bytes)) (group_fields key bytes)

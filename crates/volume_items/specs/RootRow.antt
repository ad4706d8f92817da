-- The ROOT_ITEM (id, 132, any): its fields, and the rules that it is judged by, in their order.
-- Offsets are in bytes from the item's first byte.
use Rattle.std.specs.Prelude.{ℕ, Bool, not, ◌&&◌, ◌||◌, ◌==◌, nat_lt, List, [], ◌∷◌, length, slice_index, bytes_eq, replicate, Result}
use Rattle.recon_bytes.specs.Field.{field}
use Rattle.verdict.specs.declared.trees.TheConstants.{EXTENT_TREE, DEV_TREE, FS_TREE, CSUM_TREE, QUOTA_TREE, UUID_TREE, FREE_SPACE_TREE, BLOCK_GROUP_TREE, DATA_RELOC_TREE}
use Rattle.verdict.specs.Image.{range}
use Rattle.verdict.specs.Rules.{TableRow, first_failing, finding_or}
use Rattle.verdict.specs.Items.{is_free_id, item_rule, listed_rule}
use Rattle.verdict.specs.Trees.{has_group_tree}
use Rattle.verdict.specs.declared.key.Key.{Key}
use Rattle.verdict.specs.declared.finding.Finding.{Finding}
use Rattle.verdict.specs.declared.finding.Family.TheVariants.{U, I}
use Rattle.verdict.specs.declared.place.At.{At}
use Rattle.volume_items.specs.declared.root.RootItem.{RootItem}

-- the ids of trees that a root item may have: 2 extents, 4 device, 5 and the subvolumes files, 7 checksums,
-- 8, 9 and 10, whose items stay unread, and -9, files too; and 11 block groups, where they have a tree of their own
abbrev pub is_root_id : ℕ → ℕ → Bool
is_root_id compat_ro id =
    id == EXTENT_TREE || id == DEV_TREE || id == FS_TREE || id == CSUM_TREE || id == QUOTA_TREE || id == UUID_TREE || id == FREE_SPACE_TREE
    || id == DATA_RELOC_TREE || is_free_id id || (id == BLOCK_GROUP_TREE && has_group_tree compat_ro)

-- the rules in their order: the tree lists the item, the id, the size, the generation, which is at most the leaf's,
-- drop_progress, which is zero, and the level
unfoldable pub root_rows : At → Key → List ℕ → List TableRow
root_rows at key bytes =
    listed_rule at key
    ∷ item_rule at key (not (is_root_id at.compat_ro key.objectid)) U 7 key.objectid
    ∷ item_rule at key (not (length bytes == 439 || length bytes == 239)) I 1 (length bytes)
    ∷ item_rule at key (nat_lt at.generation (field 8 bytes 160)) I 3 160
    ∷ item_rule at key (not (bytes_eq (range 220 17 bytes) (replicate 17 0))) U 8 0
    ∷ item_rule at key (nat_lt 7 (slice_index bytes 238)) I 3 238
    ∷ []

-- the fields of a root item
abbrev pub root_fields : Key → List ℕ → RootItem
root_fields key bytes = record {
  key = key;
  generation = field 8 bytes 160;
  bytenr = field 8 bytes 176;
  refs = field 4 bytes 216;
  level = slice_index bytes 238;
}

-- what a root item says at its place: the finding of the first rule that fails, else its fields
unfoldable pub root_row : At → Key → List ℕ → Result RootItem Finding
root_row at key bytes = finding_or (first_failing (root_rows at key bytes)) (root_fields key bytes)

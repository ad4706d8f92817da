-- The DEV_EXTENT (devid, 204, physical): its fields, and the rules that it is judged by, in their order.
-- Offsets are in bytes from the item's first byte.
use Rattle.std.specs.Prelude.{ℕ, not, ◌==◌, List, [], ◌∷◌, length, Result}
use Rattle.recon_bytes.specs.Field.{field}
use Rattle.verdict.specs.Rules.{TableRow, first_failing, finding_or}
use Rattle.verdict.specs.Items.{item_rule, listed_rule}
use Rattle.verdict.specs.declared.key.Key.{Key}
use Rattle.verdict.specs.declared.finding.Finding.{Finding}
use Rattle.verdict.specs.declared.finding.Family.TheVariants.{U, I}
use Rattle.verdict.specs.declared.place.At.{At}
use Rattle.volume_items.specs.declared.dev_extent.DevExtent.{DevExtent}

-- the rules in their order: the tree lists the item, the key's devid, and the size
unfoldable pub dev_extent_rows : At → Key → List ℕ → List TableRow
dev_extent_rows at key bytes =
    listed_rule at key
    ∷ item_rule at key (not (key.objectid == at.devid)) U 5 key.objectid
    ∷ item_rule at key (not (length bytes == 48)) I 1 (length bytes)
    ∷ []

-- the fields of a device extent
abbrev pub dev_extent_fields : Key → List ℕ → DevExtent
dev_extent_fields key bytes = record { key = key; chunk_offset = field 8 bytes 16; length = field 8 bytes 24 }

-- what a device extent says at its place: the finding of the first rule that fails, else its fields
unfoldable pub dev_extent_row : At → Key → List ℕ → Result DevExtent Finding
dev_extent_row at key bytes = finding_or (first_failing (dev_extent_rows at key bytes)) (dev_extent_fields key bytes)

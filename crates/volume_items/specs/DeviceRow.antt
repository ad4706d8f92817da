-- The DEV_ITEM (1, 216, devid): its fields, and the rules that it is judged by, in their order.
-- Offsets are in bytes from the item's first byte.
use Rattle.std.specs.Prelude.{ℕ, not, ◌==◌, List, [], ◌∷◌, length, Result}
use Rattle.recon_bytes.specs.Field.{field}
use Rattle.verdict.specs.Rules.{TableRow, first_failing, finding_or}
use Rattle.verdict.specs.Items.{item_rule, listed_rule}
use Rattle.verdict.specs.declared.key.Key.{Key}
use Rattle.verdict.specs.declared.finding.Finding.{Finding}
use Rattle.verdict.specs.declared.finding.Family.TheVariants.{U, I}
use Rattle.verdict.specs.declared.place.At.{At}
use Rattle.volume_items.specs.declared.device.DeviceItem.{DeviceItem}

-- the rules in their order: the tree lists the item, the key's objectid, the size, and the devid, which is that of
-- the key and then that of the superblock
unfoldable pub device_rows : At → Key → List ℕ → List TableRow
device_rows at key bytes =
    listed_rule at key
    ∷ item_rule at key (not (key.objectid == 1)) I 2 0
    ∷ item_rule at key (not (length bytes == 98)) I 1 (length bytes)
    ∷ item_rule at key (not (field 8 bytes 0 == key.offset)) I 3 0
    ∷ item_rule at key (not (field 8 bytes 0 == at.devid)) U 5 (field 8 bytes 0)
    ∷ []

-- the fields of a device item
abbrev pub device_fields : Key → List ℕ → DeviceItem
device_fields key bytes = record { key = key; devid = field 8 bytes 0; bytes_used = field 8 bytes 16 }

-- what a device item says at its place: the finding of the first rule that fails, else its fields
unfoldable pub device_row : At → Key → List ℕ → Result DeviceItem Finding
device_row at key bytes = finding_or (first_failing (device_rows at key bytes)) (device_fields key bytes)

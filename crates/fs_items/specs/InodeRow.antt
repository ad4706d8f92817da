-- The INODE_ITEM (ino, 1, 0): its fields, and the rules that it is judged by, in their order. Offsets are in bytes from
-- the item's first byte.
use Rattle.std.specs.Prelude.{ℕ, Bool, not, ◌||◌, ◌==◌, List, [], ◌∷◌, length, bit_and, Result}
use Rattle.recon_bytes.specs.Field.{field}
use Rattle.verdict.specs.Rules.{TableRow, first_failing, finding_or}
use Rattle.verdict.specs.Items.{item_rule, listed_rule}
use Rattle.verdict.specs.declared.key.Key.{Key}
use Rattle.verdict.specs.declared.finding.Finding.{Finding}
use Rattle.verdict.specs.declared.finding.Family.TheVariants.{I}
use Rattle.verdict.specs.declared.place.At.{At}
use Rattle.fs_items.specs.declared.inode.InodeItem.{InodeItem}

-- whether a mode's type bits, 0o170000, are those of a regular file, a directory, a character device, a block device,
-- a FIFO, a socket or a symbolic link
abbrev pub has_inode_type : ℕ → Bool
has_inode_type mode =
    bit_and mode 0xF000 == 0x8000
    || bit_and mode 0xF000 == 0x4000
    || bit_and mode 0xF000 == 0x2000
    || bit_and mode 0xF000 == 0x6000
    || bit_and mode 0xF000 == 0x1000
    || bit_and mode 0xF000 == 0xC000
    || bit_and mode 0xF000 == 0xA000

-- the rules in their order: the key, whose offset is 0, the size, and the type bits of the mode
abbrev pub inode_rows : At → Key → List ℕ → List TableRow
inode_rows at key bytes =
    listed_rule at key
    ∷ item_rule at key (not (key.offset == 0)) I 2 0
    ∷ item_rule at key (not (length bytes == 160)) I 1 (length bytes)
    ∷ item_rule at key (not (has_inode_type (field 4 bytes 52))) I 3 52
    ∷ []

-- the fields of an inode item
abbrev pub inode_fields : Key → List ℕ → InodeItem
inode_fields key bytes = record {
  key = key;
  size = field 8 bytes 16;
  nbytes = field 8 bytes 24;
  nlink = field 4 bytes 40;
  mode = field 4 bytes 52;
  flags = field 8 bytes 64;
}

-- what an inode item says at its place: the finding of the first rule that fails, else its fields
unfoldable pub inode_row : At → Key → List ℕ → Result InodeItem Finding
inode_row at key bytes = finding_or (first_failing (inode_rows at key bytes)) (inode_fields key bytes)

-- The EXTENT_DATA (ino, 108, file offset): its fields, and the rules that it is judged by, in their order. Offsets are
-- in bytes from the item's first byte.
use Rattle.std.specs.Prelude.{ℕ, ◌+◌, Bool, not, ◌&&◌, ◌==◌, nat_lt, List, [], ◌∷◌, ◌++◌, length, slice_index, Result, if◌then◌else◌}
use Rattle.recon_bytes.specs.Field.{field}
use Rattle.verdict.specs.Rules.{TableRow, first_failing, finding_or}
use Rattle.verdict.specs.Items.{item_rule, listed_rule, is_multiple, passes_64}
use Rattle.verdict.specs.declared.key.Key.{Key}
use Rattle.verdict.specs.declared.finding.Finding.{Finding}
use Rattle.verdict.specs.declared.finding.Family.TheVariants.{U, I}
use Rattle.verdict.specs.declared.place.At.{At}
use Rattle.fs_items.specs.declared.file_extent.FileExtent.{FileExtent}

-- the type of a file extent: 0 inline, 1 regular, 2 preallocated
abbrev pub type_of : List ℕ → ℕ
type_of bytes = slice_index bytes 20

-- the rules in their order, first on the key, on the head of 21 bytes, on compression, on encryption and other
-- encoding, and on the type
unfoldable pub head_rows : At → Key → List ℕ → List TableRow
head_rows at key bytes =
    listed_rule at key
    ∷ item_rule at key (nat_lt (length bytes) 21) I 1 (length bytes)
    ∷ item_rule at key (not (slice_index bytes 16 == 0)) U 13 (slice_index bytes 16)
    ∷ item_rule at key (not (slice_index bytes 17 == 0)) U 14 (slice_index bytes 17)
    ∷ item_rule at key (not (field 2 bytes 18 == 0)) U 14 (field 2 bytes 18)
    ∷ item_rule at key (nat_lt 2 (type_of bytes)) I 3 20
    ∷ []

-- then, inline, on the file offset and the size: the data, ram_bytes of them, stand behind the head
unfoldable pub inline_rows : At → Key → List ℕ → List TableRow
inline_rows at key bytes =
    item_rule at key (not (key.offset == 0)) I 2 0
    ∷ item_rule at key (not (length bytes == 21 + field 8 bytes 8)) I 1 (length bytes)
    ∷ []

-- of an extent that is not inline: the logical address of the extent on the disk, 0 of a hole, and its length
abbrev pub disk_bytenr : List ℕ → ℕ
disk_bytenr bytes = field 8 bytes 21

abbrev pub disk_num_bytes : List ℕ → ℕ
disk_num_bytes bytes = field 8 bytes 29

-- where in the extent the file's range begins, and the length of that range
abbrev pub offset_in_extent : List ℕ → ℕ
offset_in_extent bytes = field 8 bytes 37

abbrev pub num_bytes : List ℕ → ℕ
num_bytes bytes = field 8 bytes 45

-- a hole has no extent on the disk
abbrev pub is_hole : List ℕ → Bool
is_hole bytes = disk_bytenr bytes == 0

-- or, of another type, on the file offset, the size and the four fields
unfoldable pub disk_rows : At → Key → List ℕ → List TableRow
disk_rows at key bytes =
    item_rule at key (not (is_multiple key.offset)) I 2 0
    ∷ item_rule at key (not (length bytes == 53)) I 1 (length bytes)
    ∷ item_rule at key (not (is_multiple (disk_bytenr bytes))) I 3 21
    ∷ item_rule at key (not (is_multiple (disk_num_bytes bytes))) I 3 29
    ∷ item_rule at key (not (is_multiple (offset_in_extent bytes))) I 3 37
    ∷ item_rule at key (not (is_multiple (num_bytes bytes))) I 3 45
    ∷ []

-- and on the range of the file, on a hole, which is of type 1 alone, and where it is none, on the range of the extent
-- and on its part that the file shows
unfoldable pub range_rows : At → Key → List ℕ → List TableRow
range_rows at key bytes =
    item_rule at key (passes_64 key.offset (num_bytes bytes)) I 3 45
    ∷ item_rule at key (is_hole bytes && type_of bytes == 2) I 3 21
    ∷ item_rule at key (not (is_hole bytes) && passes_64 (disk_bytenr bytes) (disk_num_bytes bytes)) I 3 29
    ∷ item_rule at key (not (is_hole bytes) && nat_lt (disk_num_bytes bytes) (offset_in_extent bytes + num_bytes bytes)) I 3 45
    ∷ []

-- all rules of a file extent in their order
abbrev pub file_extent_rows : At → Key → List ℕ → List TableRow
file_extent_rows at key bytes =
    head_rows at key bytes
    ++ (if type_of bytes == 0 then inline_rows at key bytes else disk_rows at key bytes ++ range_rows at key bytes)

-- the fields of a file extent; those of the extent on the disk are 0 where it is inline
abbrev pub file_extent_fields : Key → List ℕ → FileExtent
file_extent_fields key bytes = record {
  key = key;
  ram_bytes = field 8 bytes 8;
  sort = type_of bytes;
  extent = if type_of bytes == 0 then 0 else disk_bytenr bytes;
  extent_length = if type_of bytes == 0 then 0 else disk_num_bytes bytes;
  offset = if type_of bytes == 0 then 0 else offset_in_extent bytes;
  length = if type_of bytes == 0 then 0 else num_bytes bytes;
}

-- what a file extent says at its place: the finding of the first rule that fails, else its fields
unfoldable pub file_extent_row : At → Key → List ℕ → Result FileExtent Finding
file_extent_row at key bytes = finding_or (first_failing (file_extent_rows at key bytes)) (file_extent_fields key bytes)

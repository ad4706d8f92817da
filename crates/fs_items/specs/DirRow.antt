-- The DIR_ITEM (dir, 84, name hash) and the DIR_INDEX (dir, 96, index): their entries, and the rules that they are
-- judged by, in their order. Offsets are in bytes from the item's first byte.
use Rattle.std.specs.Prelude.{ℕ, ◌+◌, Bool, not, ◌&&◌, ◌||◌, ◌==◌, nat_lt, nat_le, List, [], ◌∷◌, ◌++◌, length, slice_index, map, filter, flat_map, bytes_eq, Result, if◌then◌else◌}
use Rattle.std.specs.List.{list_any}
use Rattle.recon_bytes.specs.Field.{field}
use Rattle.recon_crc.specs.Checksum.{name_hash_of}
use Rattle.verdict.specs.Image.{range}
use Rattle.verdict.specs.OnDisk.{key_of}
use Rattle.verdict.specs.Rules.{TableRow, first_failing, finding_or}
use Rattle.verdict.specs.Items.{item_rule, listed_rule}
use Rattle.verdict.specs.declared.key.Key.{Key}
use Rattle.verdict.specs.declared.finding.Finding.{Finding}
use Rattle.verdict.specs.declared.finding.Family.TheVariants.{I}
use Rattle.verdict.specs.declared.place.At.{At}
use Rattle.fs_items.specs.Parts.{places, is_name_size}
use Rattle.verdict.specs.declared.kinds.TheConstants.{INODE_ITEM, DIR_ITEM, DIR_INDEX, ROOT_ITEM}

-- an entry of a directory: the key of what it names, its type, and the name's bytes
pub record EntryFields : Type 0 where
  pub location : Key
  pub sort : ℕ
  pub name : List ℕ

-- the entries of an item that keep their rules
pub record DirFields : Type 0 where
  pub key : Key
  pub entries : List EntryFields

-- An entry has location 0 (17 bytes), transid 17, data_len 25 (2), name_len 27 (2), type 29 (1), and the name at 30. By
-- its place, the length of its name, the name, and the place behind it:
abbrev pub name_len : List ℕ → ℕ → ℕ
name_len bytes place = field 2 bytes (place + 27)

abbrev pub name_in : List ℕ → ℕ → List ℕ
name_in bytes place = range (place + 30) (name_len bytes place) bytes

abbrev pub entry_end : List ℕ → ℕ → ℕ
entry_end bytes place = place + 30 + name_len bytes place

-- the places where the entries of an item begin, from one on
abbrev pub entry_places : List ℕ → ℕ → List ℕ
entry_places bytes place = places (entry_end bytes) (length bytes) place

-- the entry at a place
abbrev pub entry_at : List ℕ → ℕ → EntryFields
entry_at bytes place = record {
  location = key_of bytes place;
  sort = slice_index bytes (place + 29);
  name = name_in bytes place;
}

-- whether the entry at a place stands whole in the item
abbrev pub is_whole_entry : List ℕ → ℕ → Bool
is_whole_entry bytes place = nat_le (entry_end bytes place) (length bytes)

-- the whole entries of an item from a place on, which in a right item are all
abbrev pub entries_from : List ℕ → ℕ → List EntryFields
entries_from bytes place = map (entry_at bytes) (filter (is_whole_entry bytes) (entry_places bytes place))

-- what an entry may lead to: an inode, 1, or the root of a subvolume, 132
abbrev pub is_location_kind : ℕ → Bool
is_location_kind kind = kind == INODE_ITEM || kind == ROOT_ITEM

-- the types of entries: regular, directory, char, block, fifo, socket, symlink
abbrev pub is_entry_type : ℕ → Bool
is_entry_type sort = nat_le 1 sort && nat_le sort 7

-- whether an earlier entry of the item has the name of the entry at a place
unfoldable pub stands_before : List ℕ → ℕ → Bool
stands_before bytes place =
    list_any (λ earlier. nat_lt earlier place && bytes_eq (name_in bytes earlier) (name_in bytes place)) (entry_places bytes 0)

-- the rules on the entry at a place, in their order: first its 30 bytes before the name, location's kind, data_len,
-- name_len and type
unfoldable pub entry_head_rows : At → Key → List ℕ → ℕ → List TableRow
entry_head_rows at key bytes place =
    item_rule at key (nat_lt (length bytes) (place + 30)) I 1 place
    ∷ item_rule at key (not (is_location_kind (slice_index bytes (place + 8)))) I 3 (place + 8)
    ∷ item_rule at key (not (field 2 bytes (place + 25) == 0)) I 3 (place + 25)
    ∷ item_rule at key (not (is_name_size (name_len bytes place))) I 3 (place + 27)
    ∷ item_rule at key (not (is_entry_type (slice_index bytes (place + 29)))) I 3 (place + 29)
    ∷ []

-- then the name, and in a DIR_ITEM its hash, which is the key's offset, and that it did not stand before
unfoldable pub entry_name_rows : At → Key → List ℕ → ℕ → List TableRow
entry_name_rows at key bytes place =
    item_rule at key (nat_lt (length bytes) (entry_end bytes place)) I 1 (place + 30)
    ∷ item_rule at key (key.kind == DIR_ITEM && not (name_hash_of (name_in bytes place) == key.offset)) I 4 (name_hash_of (name_in bytes place))
    ∷ item_rule at key (key.kind == DIR_ITEM && stands_before bytes place) I 5 place
    ∷ []

-- all rules on the entry at a place
abbrev pub entry_rows : At → Key → List ℕ → ℕ → List TableRow
entry_rows at key bytes place = entry_head_rows at key bytes place ++ entry_name_rows at key bytes place

-- the rules on the only entry of a DIR_INDEX, and that no bytes stand behind it
abbrev pub index_rows : At → Key → List ℕ → List TableRow
index_rows at key bytes =
    entry_rows at key bytes 0 ++ item_rule at key (not (length bytes == entry_end bytes 0)) I 1 (length bytes) ∷ []

-- all rules in their order, in a DIR_ITEM entry by entry; an item has at least one
abbrev pub dir_rows : At → Key → List ℕ → List TableRow
dir_rows at key bytes =
    listed_rule at key
    ∷ (if key.kind == DIR_INDEX then index_rows at key bytes else flat_map (entry_rows at key bytes) (entry_places bytes 0))

-- the fields of directory entries
abbrev pub dir_fields : Key → List ℕ → DirFields
dir_fields key bytes = record { key = key; entries = entries_from bytes 0 }

-- what directory entries say at their place: the finding of the first rule that fails, else the fields
unfoldable pub dir_row : At → Key → List ℕ → Result DirFields Finding
dir_row at key bytes = finding_or (first_failing (dir_rows at key bytes)) (dir_fields key bytes)

-- The INODE_REF (ino, 12, parent) and the INODE_EXTREF (ino, 13, any): their names, and the rules that they are judged
-- by, in their order. Offsets are in bytes from the item's first byte.
use Rattle.std.specs.Prelude.{ℕ, ◌+◌, Bool, not, ◌==◌, nat_lt, nat_le, List, [], ◌∷◌, length, map, filter, flat_map, Result, if◌then◌else◌}
use Rattle.recon_bytes.specs.Field.{field}
use Rattle.verdict.specs.Image.{range}
use Rattle.verdict.specs.Rules.{TableRow, first_failing, finding_or}
use Rattle.verdict.specs.Items.{item_rule, listed_rule}
use Rattle.verdict.specs.declared.key.Key.{Key}
use Rattle.verdict.specs.declared.finding.Finding.{Finding}
use Rattle.verdict.specs.declared.finding.Family.TheVariants.{I}
use Rattle.verdict.specs.declared.place.At.{At}
use Rattle.fs_items.specs.Parts.{places, is_name_size}
use Rattle.verdict.specs.declared.kinds.TheConstants.{INODE_EXTREF}

-- a name of a file: the directory, the index of the entry there, and the name's bytes
pub record NameFields : Type 0 where
  pub parent : ℕ
  pub index : ℕ
  pub name : List ℕ

-- the names of a file that keep their rules
pub record InodeRefFields : Type 0 where
  pub key : Key
  pub names : List NameFields

-- An entry has the parent in eight bytes (kind 13 alone: kind 12 has it in the key), the index in eight, the name's
-- length in two, and the name. Where in the entry the index stands:
abbrev pub index_at : Key → ℕ
index_at key = if key.kind == INODE_EXTREF then 8 else 0

-- the length of the name of the entry at a place, the place of the name, and the place behind it
abbrev pub name_size : Key → List ℕ → ℕ → ℕ
name_size key bytes place = field 2 bytes (place + index_at key + 8)

abbrev pub name_place : Key → ℕ → ℕ
name_place key place = place + index_at key + 10

abbrev pub name_end : Key → List ℕ → ℕ → ℕ
name_end key bytes place = name_place key place + name_size key bytes place

-- the places where the entries of an item begin, from one on
abbrev pub name_places : Key → List ℕ → ℕ → List ℕ
name_places key bytes place = places (name_end key bytes) (length bytes) place

-- the entry at a place
abbrev pub name_at : Key → List ℕ → ℕ → NameFields
name_at key bytes place = record {
  parent = if key.kind == INODE_EXTREF then field 8 bytes place else key.offset;
  index = field 8 bytes (place + index_at key);
  name = range (name_place key place) (name_size key bytes place) bytes;
}

-- whether the entry at a place stands whole in the item
abbrev pub is_whole_name : Key → List ℕ → ℕ → Bool
is_whole_name key bytes place = nat_le (name_end key bytes place) (length bytes)

-- the whole entries of an item from a place on, which in a right item are all
abbrev pub names_from : Key → List ℕ → ℕ → List NameFields
names_from key bytes place = map (name_at key bytes) (filter (is_whole_name key bytes) (name_places key bytes place))

-- the rules on the entry at a place, in their order: what stands before the name, the name, and its length
unfoldable pub name_rows : At → Key → List ℕ → ℕ → List TableRow
name_rows at key bytes place =
    item_rule at key (nat_lt (length bytes) (name_place key place)) I 1 place
    ∷ item_rule at key (nat_lt (length bytes) (name_end key bytes place)) I 1 (name_place key place)
    ∷ item_rule at key (not (is_name_size (name_size key bytes place))) I 3 (place + index_at key + 8)
    ∷ []

-- all rules in their order, entry by entry; an item has at least one
abbrev pub inode_ref_rows : At → Key → List ℕ → List TableRow
inode_ref_rows at key bytes = listed_rule at key ∷ flat_map (name_rows at key bytes) (name_places key bytes 0)

-- the fields of the names of a file
abbrev pub inode_ref_fields : Key → List ℕ → InodeRefFields
inode_ref_fields key bytes = record { key = key; names = names_from key bytes 0 }

-- what the names of a file say at their place: the finding of the first rule that fails, else the fields
unfoldable pub inode_ref_row : At → Key → List ℕ → Result InodeRefFields Finding
inode_ref_row at key bytes = finding_or (first_failing (inode_ref_rows at key bytes)) (inode_ref_fields key bytes)

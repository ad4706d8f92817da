-- The EXTENT_ITEM (address, 168, length) of file data and the METADATA_ITEM (address, 169, level) of a tree block:
-- their fields, and the rules that they are judged by, in their order. Offsets are in bytes from the item's first byte.
use Rattle.std.specs.Prelude.{ℕ, not, ◌||◌, ◌==◌, nat_lt, bit_and, List, [], ◌∷◌, ◌++◌, length, drop, Result, if◌then◌else◌}
use Rattle.recon_bytes.specs.Field.{field}
use Rattle.verdict.specs.Rules.{TableRow, first_failing, finding_or}
use Rattle.verdict.specs.Items.{item_rule, is_multiple, listed_rule, passes_64}
use Rattle.verdict.specs.declared.key.Key.{Key}
use Rattle.verdict.specs.declared.finding.Finding.{Finding}
use Rattle.verdict.specs.declared.finding.Family.TheVariants.{U, I}
use Rattle.verdict.specs.declared.place.At.{At}
use Rattle.extent_items.specs.References.{references_of}
use Rattle.extent_items.specs.ReferenceRows.{reference_rows}
use Rattle.extent_items.specs.declared.reference.Reference.{Reference}
use Rattle.verdict.specs.declared.kinds.TheConstants.{EXTENT_ITEM}

-- an extent that keeps its rules: key, count of uses, generation, flags and references
pub record ExtentFields : Type 0 where
  pub key : Key
  pub refs : ℕ
  pub generation : ℕ
  pub flags : ℕ
  pub references : List Reference

-- an EXTENT_ITEM up to its references: the tree lists the item, the key, the size, the form that is not skinny (flag 2),
-- and the flags, which are 1, data
unfoldable pub data_head_rows : At → Key → List ℕ → List TableRow
data_head_rows at key bytes =
    listed_rule at key
    ∷ item_rule at key (not (is_multiple key.objectid) || not (is_multiple key.offset) || key.offset == 0 || passes_64 key.objectid key.offset) I 2 0
    ∷ item_rule at key (nat_lt (length bytes) 24) I 1 (length bytes)
    ∷ item_rule at key (bit_and (field 8 bytes 16) 2 == 2) U 10 (field 8 bytes 16)
    ∷ item_rule at key (not (field 8 bytes 16 == 1)) I 3 16
    ∷ []

-- a METADATA_ITEM up to its references: the tree lists the item, the key, the size, the flag 256 (full backrefs), and
-- the flags, which are 2, a tree block
unfoldable pub block_head_rows : At → Key → List ℕ → List TableRow
block_head_rows at key bytes =
    listed_rule at key
    ∷ item_rule at key (not (is_multiple key.objectid) || nat_lt 7 key.offset || passes_64 key.objectid at.nodesize) I 2 0
    ∷ item_rule at key (nat_lt (length bytes) 24) I 1 (length bytes)
    ∷ item_rule at key (field 8 bytes 16 == 258) U 11 256
    ∷ item_rule at key (not (field 8 bytes 16 == 2)) I 3 16
    ∷ []

-- the rules up to the references, by the item's kind
abbrev pub head_rows : At → Key → List ℕ → List TableRow
head_rows at key bytes = if key.kind == EXTENT_ITEM then data_head_rows at key bytes else block_head_rows at key bytes

-- all rules in their order: the references begin at byte 24
abbrev pub extent_rows : At → Key → List ℕ → List TableRow
extent_rows at key bytes = head_rows at key bytes ++ reference_rows at key 24 (drop 24 bytes)

-- the fields of both items
abbrev pub extent_fields : Key → List ℕ → ExtentFields
extent_fields key bytes = record {
  key = key;
  refs = field 8 bytes 0;
  generation = field 8 bytes 8;
  flags = field 8 bytes 16;
  references = references_of (drop 24 bytes);
}

-- what the item of an extent says at its place: the finding of the first rule that fails, else its fields
unfoldable pub extent_row : At → Key → List ℕ → Result ExtentFields Finding
extent_row at key bytes = finding_or (first_failing (extent_rows at key bytes)) (extent_fields key bytes)

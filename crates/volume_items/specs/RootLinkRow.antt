-- The ROOT_REF (parent, 156, child) and the ROOT_BACKREF (child, 144, parent): the name of a subvolume in its parent.
-- The fields, and the rules that both are judged by, in their order. Offsets are in bytes from the item's first byte.
use Rattle.std.specs.Prelude.{ℕ, ◌+◌, not, ◌||◌, ◌==◌, nat_lt, List, [], ◌∷◌, length, drop, Result}
use Rattle.recon_bytes.specs.Field.{field}
use Rattle.verdict.specs.Rules.{TableRow, first_failing, finding_or}
use Rattle.verdict.specs.Items.{item_rule, listed_rule}
use Rattle.verdict.specs.declared.key.Key.{Key}
use Rattle.verdict.specs.declared.finding.Finding.{Finding}
use Rattle.verdict.specs.declared.finding.Family.TheVariants.{I}
use Rattle.verdict.specs.declared.place.At.{At}

-- a root link that keeps its rules: key, the directory in the parent, the index there, and the name
pub record RootLinkFields : Type 0 where
  pub key : Key
  pub dirid : ℕ
  pub sequence : ℕ
  pub name : List ℕ

-- the rules in their order: the tree lists the item, the size, name_len, which is 1 to 255, and the size with the name
unfoldable pub root_link_rows : At → Key → List ℕ → List TableRow
root_link_rows at key bytes =
    listed_rule at key
    ∷ item_rule at key (nat_lt (length bytes) 18) I 1 (length bytes)
    ∷ item_rule at key (field 2 bytes 16 == 0 || nat_lt 255 (field 2 bytes 16)) I 3 16
    ∷ item_rule at key (not (length bytes == 18 + field 2 bytes 16)) I 1 (length bytes)
    ∷ []

-- the fields of a root link
abbrev pub root_link_fields : Key → List ℕ → RootLinkFields
root_link_fields key bytes = record {
  key = key;
  dirid = field 8 bytes 0;
  sequence = field 8 bytes 8;
  name = drop 18 bytes;
}

-- what a root link says at its place: the finding of the first rule that fails, else its fields
unfoldable pub root_link_row : At → Key → List ℕ → Result RootLinkFields Finding
root_link_row at key bytes = finding_or (first_failing (root_link_rows at key bytes)) (root_link_fields key bytes)

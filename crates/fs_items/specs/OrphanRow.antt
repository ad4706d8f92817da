-- The ORPHAN_ITEM (-5, 48, ino), which has no bytes.
use Rattle.std.specs.Prelude.{ℕ, not, ◌==◌, List, [], ◌∷◌, length, Result}
use Rattle.verdict.specs.Rules.{TableRow, first_failing, finding_or}
use Rattle.verdict.specs.Items.{item_rule, listed_rule, orphan_objectid}
use Rattle.verdict.specs.declared.key.Key.{Key}
use Rattle.verdict.specs.declared.finding.Finding.{Finding}
use Rattle.verdict.specs.declared.finding.Family.TheVariants.{I}
use Rattle.verdict.specs.declared.place.At.{At}
use Rattle.fs_items.specs.declared.orphan.Orphan.{Orphan}

-- the rules in their order: the key, whose objectid is -5, and the size
abbrev pub orphan_rows : At → Key → List ℕ → List TableRow
orphan_rows at key bytes =
    listed_rule at key
    ∷ item_rule at key (not (key.objectid == orphan_objectid)) I 2 0
    ∷ item_rule at key (not (length bytes == 0)) I 1 (length bytes)
    ∷ []

-- the fields of an orphan item
abbrev pub orphan_fields : Key → List ℕ → Orphan
orphan_fields key bytes = record { key = key }

-- what an orphan item says at its place: the finding of the first rule that fails, else its fields
unfoldable pub orphan_row : At → Key → List ℕ → Result Orphan Finding
orphan_row at key bytes = finding_or (first_failing (orphan_rows at key bytes)) (orphan_fields key bytes)

-- The EXTENT_CSUM (-10, 128, address): four bytes of checksum for each sector from the address on.
use Rattle.std.specs.Prelude.{ℕ, ◌*◌, ◌/◌, ◌%◌, not, ◌||◌, ◌==◌, List, [], ◌∷◌, length, Result}
use Rattle.verdict.specs.Rules.{TableRow, first_failing, finding_or}
use Rattle.verdict.specs.Items.{item_rule, listed_rule, is_multiple, passes_64}
use Rattle.verdict.specs.declared.key.Key.{Key}
use Rattle.verdict.specs.declared.finding.Finding.{Finding}
use Rattle.verdict.specs.declared.finding.Family.TheVariants.{I}
use Rattle.verdict.specs.declared.place.At.{At}

-- checksums that keep their rules: the key, whose offset is the address of the first sector, and the bytes of the sums
pub record SumFields : Type 0 where
  pub key : Key
  pub sums : List ℕ

-- the objectid -10, of checksums
abbrev pub sums_objectid : ℕ
sums_objectid = 18446744073709551606

-- the rules in their order: the key, the size, a positive multiple of four bytes, and the range that is covered
abbrev pub sum_rows : At → Key → List ℕ → List TableRow
sum_rows at key bytes =
    listed_rule at key
    ∷ item_rule at key (not (key.objectid == sums_objectid)) I 2 0
    ∷ item_rule at key (not (is_multiple key.offset)) I 2 0
    ∷ item_rule at key (length bytes == 0 || not (length bytes % 4 == 0)) I 1 (length bytes)
    ∷ item_rule at key (passes_64 key.offset (4096 * (length bytes / 4))) I 1 (length bytes)
    ∷ []

-- the fields of the checksums
abbrev pub sum_fields : Key → List ℕ → SumFields
sum_fields key bytes = record { key = key; sums = bytes }

-- what checksums say at their place: the finding of the first rule that fails, else the fields
unfoldable pub sum_row : At → Key → List ℕ → Result SumFields Finding
sum_row at key bytes = finding_or (first_failing (sum_rows at key bytes)) (sum_fields key bytes)

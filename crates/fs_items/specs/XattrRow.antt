-- The XATTR_ITEM (ino, 24, any), whose bytes stay unread.
use Rattle.std.specs.Prelude.{ℕ, List, [], ◌∷◌, Result}
use Rattle.verdict.specs.Rules.{TableRow, first_failing, finding_or}
use Rattle.verdict.specs.Items.{listed_rule}
use Rattle.verdict.specs.declared.key.Key.{Key}
use Rattle.verdict.specs.declared.finding.Finding.{Finding}
use Rattle.verdict.specs.declared.place.At.{At}
use Rattle.fs_items.specs.declared.xattr.Xattr.{Xattr}

-- the only rule: the tree lists the item
abbrev pub xattr_rows : At → Key → List ℕ → List TableRow
xattr_rows at key bytes = listed_rule at key ∷ []

-- the fields of an extended attribute
abbrev pub xattr_fields : Key → List ℕ → Xattr
xattr_fields key bytes = record { key = key }

-- what an extended attribute says at its place: the finding of the first rule that fails, else its fields
unfoldable pub xattr_row : At → Key → List ℕ → Result Xattr Finding
xattr_row at key bytes = finding_or (first_failing (xattr_rows at key bytes)) (xattr_fields key bytes)

-- The rules on the references of an extent's item. The first fault decides, and nothing behind it is looked at.
use Rattle.std.specs.Prelude.{ℕ, zero, suc, ◌+◌, not, ◌||◌, ◌==◌, nat_lt, List, [], ◌∷◌, ◌++◌, length, if◌then◌else◌}
use Rattle.verdict.specs.Rules.{TableRow}
use Rattle.verdict.specs.Items.{item_rule}
use Rattle.verdict.specs.declared.key.Key.{Key}
use Rattle.verdict.specs.declared.finding.Family.TheVariants.{U, I}
use Rattle.verdict.specs.declared.place.At.{At}
use Rattle.extent_items.specs.References.{body_size, count_at, inline_reference}
use Rattle.verdict.specs.declared.kinds.TheConstants.{EXTENT_ITEM, TREE_BLOCK_REF, EXTENT_DATA_REF, SHARED_BLOCK_REF, SHARED_DATA_REF}

-- a reference of an EXTENT_ITEM whose type stands at an offset of the item: its type, its body, its count, and whether
-- a leaf refers, which is outside the profile
unfoldable pub data_reference_rows : At → Key → ℕ → ℕ → List ℕ → List TableRow
data_reference_rows at key offset kind body =
    item_rule at key (not (kind == EXTENT_DATA_REF || kind == SHARED_DATA_REF)) I 3 offset
    ∷ item_rule at key (nat_lt (length body) (body_size kind)) I 1 (offset + 1)
    ∷ item_rule at key ((inline_reference kind body).count == 0) I 3 (offset + 1 + count_at kind)
    ∷ item_rule at key (kind == SHARED_DATA_REF) U 11 SHARED_DATA_REF
    ∷ []

-- a reference of a METADATA_ITEM: whether a node refers, which is outside the profile, its type, and its body
unfoldable pub block_reference_rows : At → Key → ℕ → ℕ → List ℕ → List TableRow
block_reference_rows at key offset kind body =
    item_rule at key (kind == SHARED_BLOCK_REF) U 11 SHARED_BLOCK_REF
    ∷ item_rule at key (not (kind == TREE_BLOCK_REF)) I 3 offset
    ∷ item_rule at key (nat_lt (length body) (body_size kind)) I 1 (offset + 1)
    ∷ []

-- a reference of the item with this key
abbrev pub one_reference_rows : At → Key → ℕ → ℕ → List ℕ → List TableRow
one_reference_rows at key offset kind body =
    if key.kind == EXTENT_ITEM then data_reference_rows at key offset kind body else block_reference_rows at key offset kind body

-- one whole reference after the other, behind so many bytes, the first of which stands at an offset of the item
abbrev pub rows_behind : At → Key → ℕ → ℕ → List ℕ → List TableRow
rows_behind at key n offset [] = []
rows_behind at key (suc n) offset (byte ∷ bytes) = rows_behind at key n (offset + 1) bytes
rows_behind at key zero offset (kind ∷ body) =
    one_reference_rows at key offset kind body ++ rows_behind at key (body_size kind) (offset + 1) body

-- the rules on all references in some bytes, the first of which stands at an offset of the item
abbrev pub reference_rows : At → Key → ℕ → List ℕ → List TableRow
reference_rows at key offset bytes = rows_behind at key 0 offset bytes

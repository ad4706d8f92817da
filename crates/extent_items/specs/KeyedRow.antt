-- References that are items of their own: TREE_BLOCK_REF (address, 176, root), EXTENT_DATA_REF (address, 178, any),
-- SHARED_BLOCK_REF (address, 182, parent), SHARED_DATA_REF (address, 184, parent). Offsets are in bytes from the
-- item's first byte.
use Rattle.std.specs.Prelude.{ℕ, not, ◌||◌, ◌==◌, List, [], ◌∷◌, length, Result, if◌then◌else◌}
use Rattle.recon_bytes.specs.Field.{field}
use Rattle.verdict.specs.Rules.{TableRow, first_failing, finding_or}
use Rattle.verdict.specs.Items.{item_rule, listed_rule}
use Rattle.verdict.specs.declared.key.Key.{Key}
use Rattle.verdict.specs.declared.finding.Finding.{Finding}
use Rattle.verdict.specs.declared.finding.Family.TheVariants.{U, I}
use Rattle.verdict.specs.declared.place.At.{At}
use Rattle.extent_items.specs.References.{tree_block_ref, extent_data_ref, shared_block_ref, shared_data_ref}
use Rattle.extent_items.specs.declared.reference.Reference.{Reference}
use Rattle.extent_items.specs.declared.keyed.KeyedRef.{KeyedRef}
use Rattle.verdict.specs.declared.kinds.TheConstants.{TREE_BLOCK_REF, EXTENT_DATA_REF, SHARED_BLOCK_REF, SHARED_DATA_REF}

-- the size of the item in bytes: 178 has the fields of an inline reference, 184 its count alone, 176 and 182 nothing
abbrev pub keyed_size : ℕ → ℕ
keyed_size kind = if kind == TREE_BLOCK_REF then 0 else (if kind == EXTENT_DATA_REF then 28 else (if kind == SHARED_BLOCK_REF then 0 else 4))

-- where the item has its count
abbrev pub keyed_count_at : ℕ → ℕ
keyed_count_at kind = if kind == EXTENT_DATA_REF then 24 else 0

-- the reference, whose root or parent is the key's offset where the item does not have it
unfoldable pub keyed_reference : Key → List ℕ → Reference
keyed_reference key bytes =
    if key.kind == TREE_BLOCK_REF then tree_block_ref key.offset else
    (if key.kind == EXTENT_DATA_REF then extent_data_ref bytes else
    (if key.kind == SHARED_BLOCK_REF then shared_block_ref key.offset else
    shared_data_ref key.offset (field 4 bytes 0)))

-- the rules in their order: the tree lists the item, whether a block refers, which is outside the profile, the size,
-- and the count
unfoldable pub keyed_rows : At → Key → List ℕ → List TableRow
keyed_rows at key bytes =
    listed_rule at key
    ∷ item_rule at key (key.kind == SHARED_BLOCK_REF || key.kind == SHARED_DATA_REF) U 11 key.kind
    ∷ item_rule at key (not (length bytes == keyed_size key.kind)) I 1 (length bytes)
    ∷ item_rule at key ((keyed_reference key bytes).count == 0) I 3 (keyed_count_at key.kind)
    ∷ []

-- the fields of a keyed reference
abbrev pub keyed_fields : Key → List ℕ → KeyedRef
keyed_fields key bytes = record { key = key; reference = keyed_reference key bytes }

-- what a keyed reference says at its place: the finding of the first rule that fails, else its fields
unfoldable pub keyed_row : At → Key → List ℕ → Result KeyedRef Finding
keyed_row at key bytes = finding_or (first_failing (keyed_rows at key bytes)) (keyed_fields key bytes)

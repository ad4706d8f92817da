-- References: who uses an extent. They stand in the extent's item one behind the other, each a type byte and its body.
-- Types: 176 TREE_BLOCK_REF, 178 EXTENT_DATA_REF, 182 SHARED_BLOCK_REF, 184 SHARED_DATA_REF.
-- Offsets are in bytes from the body's first byte.
use Rattle.std.specs.Prelude.{ℕ, zero, suc, ◌==◌, nat_lt, List, [], ◌∷◌, length, if◌then◌else◌}
use Rattle.recon_bytes.specs.Field.{field}
use Rattle.extent_items.specs.declared.reference.Reference.{Reference}
use Rattle.verdict.specs.declared.kinds.TheConstants.{TREE_BLOCK_REF, EXTENT_DATA_REF, SHARED_BLOCK_REF, SHARED_DATA_REF}

-- 176: the tree whose root is this uses a tree block, once
abbrev pub tree_block_ref : ℕ → Reference
tree_block_ref root = record { kind = TREE_BLOCK_REF; root = root; objectid = 0; offset = 0; parent = 0; count = 1 }

-- 178: a file of a tree uses data: root, objectid and offset in eight bytes each, and the count in four
abbrev pub extent_data_ref : List ℕ → Reference
extent_data_ref body = record {
  kind = EXTENT_DATA_REF;
  root = field 8 body 0;
  objectid = field 8 body 8;
  offset = field 8 body 16;
  parent = 0;
  count = field 4 body 24;
}

-- 182: the tree block at this address uses a tree block, once
abbrev pub shared_block_ref : ℕ → Reference
shared_block_ref parent = record { kind = SHARED_BLOCK_REF; root = 0; objectid = 0; offset = 0; parent = parent; count = 1 }

-- 184: the leaf at this address uses data so often
abbrev pub shared_data_ref : ℕ → ℕ → Reference
shared_data_ref parent count = record { kind = SHARED_DATA_REF; root = 0; objectid = 0; offset = 0; parent = parent; count = count }

-- how many bytes the body of a reference has, by its type: a root, the fields of a file, a parent, a parent and a count
abbrev pub body_size : ℕ → ℕ
body_size kind = if kind == TREE_BLOCK_REF then 8 else (if kind == EXTENT_DATA_REF then 28 else (if kind == SHARED_BLOCK_REF then 8 else 12))

-- where the body of a reference to data has its count
abbrev pub count_at : ℕ → ℕ
count_at kind = if kind == EXTENT_DATA_REF then 24 else 8

-- the reference with this type and this body
unfoldable pub inline_reference : ℕ → List ℕ → Reference
inline_reference kind body =
    if kind == TREE_BLOCK_REF then tree_block_ref (field 8 body 0) else
    (if kind == EXTENT_DATA_REF then extent_data_ref body else
    (if kind == SHARED_BLOCK_REF then shared_block_ref (field 8 body 0) else
    shared_data_ref (field 8 body 0) (field 4 body 8)))

-- the references behind so many bytes, which belong to the one before; the list ends where a body is cut
abbrev pub references_behind : ℕ → List ℕ → List Reference
references_behind n [] = []
references_behind (suc n) (byte ∷ bytes) = references_behind n bytes
references_behind zero (kind ∷ body) =
    if nat_lt (length body) (body_size kind) then [] else inline_reference kind body ∷ references_behind (body_size kind) body

-- the references in some bytes, in the order of the bytes
abbrev pub references_of : List ℕ → List Reference
references_of bytes = references_behind 0 bytes

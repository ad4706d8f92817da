-- The CHUNK_ITEM (256, 228, start): its fields, and the rules that it is judged by, in their order.
-- Offsets are in bytes from the item's first byte.
use Rattle.std.specs.Prelude.{ℕ, zero, suc, ◌+◌, ◌*◌, ◌/◌, Bool, not, ◌||◌, ◌==◌, nat_lt, List, [], ◌∷◌, ◌++◌, length, drop, slice_get, bit_and, Result, if◌then◌else◌}
use Rattle.std.specs.Option.{option_map, unwrap_or}
use Rattle.recon_bytes.specs.Field.{field}
use Rattle.verdict.specs.Rules.{TableRow, first_failing, finding_or}
use Rattle.verdict.specs.Items.{item_rule, is_multiple, listed_rule, passes_64}
use Rattle.verdict.specs.declared.key.Key.{Key}
use Rattle.verdict.specs.declared.finding.Finding.{Finding}
use Rattle.verdict.specs.declared.finding.Family.TheVariants.{U, I}
use Rattle.verdict.specs.declared.place.At.{At}
use Rattle.verdict.specs.declared.place.Chunk.{Chunk}
use Rattle.volume_items.specs.declared.chunk.Stripe.{Stripe}

-- a chunk item that keeps its rules: key, length, type and stripes
pub record ChunkFields : Type 0 where
  pub key : Key
  pub length : ℕ
  pub class : ℕ
  pub stripes : List Stripe

-- the first n stripes of some bytes, 32 bytes each: devid in eight, physical offset in eight, and the device's uuid
abbrev pub stripe_list : ℕ → List ℕ → List Stripe
stripe_list zero bytes = []
stripe_list (suc n) bytes = record { devid = field 8 bytes 0; physical = field 8 bytes 8 } ∷ stripe_list n (drop 32 bytes)

-- the whole stripes of some bytes
abbrev pub stripes_of : List ℕ → List Stripe
stripes_of bytes = stripe_list (length bytes / 32) bytes

-- the type bits that a chunk may have: 1 data, 2 system, 4 metadata, 32 dup
abbrev pub allowed_class : ℕ
allowed_class = 1 + 2 + 4 + 32

-- whether a chunk's type is dup
abbrev pub is_dup : ℕ → Bool
is_dup class = bit_and class 32 == 32

-- whether a chunk's type without dup is data, system, metadata, or data and metadata
abbrev pub is_kind : ℕ → Bool
is_kind class = bit_and class 7 == 1 || bit_and class 7 == 2 || bit_and class 7 == 4 || bit_and class 7 == 5

-- how many stripes a chunk of this type has
abbrev pub stripes_wanted : ℕ → ℕ
stripes_wanted class = if is_dup class then 2 else 1

-- the rules in their order, first on the key and the size
unfoldable pub frame_rows : At → Key → List ℕ → List TableRow
frame_rows at key bytes =
    listed_rule at key
    ∷ item_rule at key (not (key.objectid == 256)) I 2 0
    ∷ item_rule at key (not (is_multiple key.offset)) I 2 0
    ∷ item_rule at key (nat_lt (length bytes) 48) I 1 (length bytes)
    ∷ item_rule at key (not (length bytes == 48 + 32 * field 2 bytes 44)) I 1 (length bytes)
    ∷ []

-- then on length, type and number of stripes
unfoldable pub field_rows : At → Key → List ℕ → List TableRow
field_rows at key bytes =
    item_rule at key (field 8 bytes 0 == 0 || not (is_multiple (field 8 bytes 0)) || passes_64 key.offset (field 8 bytes 0)) I 3 0
    ∷ item_rule at key (not (bit_and (field 8 bytes 24) allowed_class == field 8 bytes 24)) U 6 (field 8 bytes 24)
    ∷ item_rule at key (not (is_kind (field 8 bytes 24))) I 3 24
    ∷ item_rule at key (not (field 2 bytes 44 == stripes_wanted (field 8 bytes 24))) I 3 44
    ∷ []

-- then stripe by stripe on its device and its physical offset, which stands eight bytes behind the stripe's first byte
abbrev pub stripe_rows : At → Key → ℕ → ℕ → List Stripe → List TableRow
stripe_rows at key size offset [] = []
stripe_rows at key size offset (stripe ∷ stripes) =
    item_rule at key (not (stripe.devid == at.devid)) U 5 stripe.devid
    ∷ item_rule at key (not (is_multiple stripe.physical) || passes_64 stripe.physical size) I 3 (offset + 8)
    ∷ stripe_rows at key size (offset + 32) stripes

-- all rules of a chunk item in their order
abbrev pub chunk_rows : At → Key → List ℕ → List TableRow
chunk_rows at key bytes =
    frame_rows at key bytes ++ (field_rows at key bytes ++ stripe_rows at key (field 8 bytes 0) 48 (stripes_of (drop 48 bytes)))

-- the fields of a chunk item; num_stripes says how many stripes there are
abbrev pub chunk_fields : Key → List ℕ → ChunkFields
chunk_fields key bytes = record {
  key = key;
  length = field 8 bytes 0;
  class = field 8 bytes 24;
  stripes = stripe_list (field 2 bytes 44) (drop 48 bytes);
}

-- what a chunk item says at its place: the finding of the first rule that fails, else its fields
unfoldable pub chunk_row : At → Key → List ℕ → Result ChunkFields Finding
chunk_row at key bytes = finding_or (first_failing (chunk_rows at key bytes)) (chunk_fields key bytes)

-- the physical offset of a stripe
abbrev pub physical_of : Stripe → ℕ
physical_of stripe = stripe.physical

-- the chunk of an item: its first stripe is the first copy, its second the second
abbrev pub chunk_of : ChunkFields → Chunk
chunk_of item = record {
  start = item.key.offset;
  length = item.length;
  class = item.class;
  first = unwrap_or (option_map physical_of (slice_get item.stripes 0)) 0;
  second = option_map physical_of (slice_get item.stripes 1);
}

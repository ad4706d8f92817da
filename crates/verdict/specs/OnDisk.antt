-- A key as it stands on the disk: objectid in eight bytes, kind in one, offset in eight. Keys are ordered by these in this order.
use Rattle.std.specs.Prelude.{ℕ, ◌+◌, Bool, ◌&&◌, ◌||◌, ◌==◌, nat_lt, List, slice_index}
use Rattle.recon_bytes.specs.Field.{field}
use Rattle.verdict.specs.declared.key.Key.{Key}

-- the key in the 17 bytes at an offset
abbrev pub key_of : List ℕ → ℕ → Key
key_of bytes at = record { objectid = field 8 bytes at; kind = slice_index bytes (at + 8); offset = field 8 bytes (at + 9) }

-- whether a key stands before another: by objectid, then kind, then offset
abbrev pub key_below : Key → Key → Bool
key_below a b = nat_lt a.objectid b.objectid || (a.objectid == b.objectid && (nat_lt a.kind b.kind || (a.kind == b.kind && nat_lt a.offset b.offset)))

-- whether two keys are one
abbrev pub key_same : Key → Key → Bool
key_same a b = a.objectid == b.objectid && (a.kind == b.kind && a.offset == b.offset)

-- The fields of on-disk structures as bytes, the lowest byte first. A structure is its fields, joined in order.
use Rattle.std.specs.Prelude.{ℕ, List, [], ◌∷◌, replicate}
use Rattle.byteorder.specs.Endian.{little_bytes}

-- a field of one byte
unfoldable pub u8 : ℕ → List ℕ
u8 n = n ∷ []

-- a field of two bytes
unfoldable pub u16 : ℕ → List ℕ
u16 n = little_bytes 2 n

-- a field of four bytes
unfoldable pub u32 : ℕ → List ℕ
u32 n = little_bytes 4 n

-- a field of eight bytes
unfoldable pub u64 : ℕ → List ℕ
u64 n = little_bytes 8 n

-- so many bytes of zero
unfoldable pub zeros : ℕ → List ℕ
zeros n = replicate n 0

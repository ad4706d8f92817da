-- A field of an on-disk structure: a number in a few bytes at an offset, the lowest byte first.
use Rattle.std.specs.Prelude.{ℕ, ◌+◌, List, ◌++◌, take, drop}
use Rattle.byteorder.specs.Endian.{little_number, little_bytes}

-- the number in width bytes at an offset, the lowest first
unfoldable pub field : ℕ → List ℕ → ℕ → ℕ
field width bytes at = little_number width (drop at bytes)

-- the bytes with that number in the field at an offset, and all other bytes as they were
unfoldable pub with_field : ℕ → List ℕ → ℕ → ℕ → List ℕ
with_field width bytes at n = take at bytes ++ little_bytes width n ++ drop (at + width) bytes

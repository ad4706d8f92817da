-- The checksum of bytes of which the first were sent on: a byte is taken away where it stands and put in at five places behind it.
use Rattle.std.specs.Prelude.{ℕ, ◌≡◌, ◌≤◌, ◌<◌, ◌++◌, List, [], ◌∷◌, length, take, drop, bit_xor, slice_index}
use Rattle.recon_crc.specs.Checksum.{register_after}

-- a byte with what the 418 bytes before it send to its place
unfoldable pub folded : List ℕ → ℕ → ℕ
folded before byte =
    bit_xor (bit_xor (bit_xor (bit_xor (bit_xor byte
    (slice_index before 288)) (slice_index before 108)) (slice_index before 78)) (slice_index before 28)) (slice_index before 0)

-- bytes, each with what the 418 bytes before all of them send to its place
unfoldable pub laid : List ℕ → List ℕ → List ℕ
laid before [] = []
laid before (byte ∷ bytes) = folded before byte ∷ laid (drop 1 before) bytes

-- bytes of which the first four are inverted
unfoldable pub inverted : List ℕ → List ℕ
inverted (a ∷ b ∷ c ∷ d ∷ bytes) = bit_xor a 255 ∷ bit_xor b 255 ∷ bit_xor c 255 ∷ bit_xor d 255 ∷ bytes
inverted bytes = bytes

-- 418 bytes of a buffer, from a place on
abbrev pub window : List ℕ → ℕ → List ℕ
window buffer place = take 418 (drop place buffer)

-- the first bytes were sent on, into a buffer: whatever follows, what is left comes to the same register as all of them
pub record Folds (old new bytes : List ℕ) (count : ℕ) : Type 0 where
  pub long : length new ≡ length old
  pub fits : (place : ℕ) → slice_index new place < 256
  pub same : (rest : List ℕ) → 418 ≤ length rest
      → register_after 0 (laid (window new count) (drop count bytes ++ rest)) ≡ register_after 0 (laid (window old 0) (bytes ++ rest))

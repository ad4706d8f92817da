-- Up to eight blocks of one length, and their checksums.
use Rattle.std.specs.Prelude.{ℕ, ◌-◌, List, [], ◌∷◌, ◌++◌, length, map, replicate}
use Rattle.recon_crc.specs.Checksum.{crc32c_of}

-- blocks that were lent, in order, each of so many bytes
pub record Lent : Type 0 where
  pub size : ℕ
  pub blocks : List (List ℕ)

-- one more block behind those that stand
abbrev pub with_block : Lent → List ℕ → Lent
with_block lent block = record { size = lent.size; blocks = lent.blocks ++ block ∷ [] }

-- the CRC-32C of each block in order, and 0 at each place behind them up to the eighth
unfoldable pub eight_sums : List (List ℕ) → List ℕ
eight_sums blocks = map crc32c_of blocks ++ replicate (8 - length blocks) 0

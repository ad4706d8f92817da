-- What a call of an object outside the program may do: a disk, a source of bytes, a sink of bytes.
use Rattle.std.specs.Prelude.{ℕ, ◌≡◌, ◌+◌, ◌-◌, ◌^◌, ◌≤◌, ◌⊎◌, List, [], ◌++◌, length, take, drop, min, Option, Some, None, Result, OnOk, OnErr}
use Rattle.verdict.specs.Image.{written}

-- one more on a counter of 64 bits that stays at its greatest value
abbrev pub counted : ℕ → ℕ
counted n = min (n + 1) (2 ^ 64 - 1)

-- A call that fails raised the count of faults, or the count stands at its greatest value. A call
-- that does not fail leaves the count.
pub record HasCause {T E : Type 0} (before now : ℕ) (result : Result T E) : Type 0 where
  pub grows : before ≤ now
  pub failed : OnErr result (counted before ≤ now)
  pub fine : OnOk result (now ≡ before)

-- where superblocks of a device lie: 4096 bytes from byte 65536 on
abbrev pub superblock_at : ℕ
superblock_at = 65536

abbrev pub superblock_size : ℕ
superblock_size = 4096

-- what a write that failed may leave: bytes outside its range stay, and the superblock place alone is
-- written whole or not at all
pub record IsPartlyWritten (image : List ℕ) (at : ℕ) (bytes after : List ℕ) : Type 0 where
  pub same_length : length after ≡ length image
  pub before : take at after ≡ take at image
  pub behind : drop (at + length bytes) after ≡ drop (at + length bytes) image
  pub whole : at ≡ superblock_at → length bytes ≡ superblock_size → (after ≡ image) ⊎ (after ≡ written image at bytes)

-- the same of a disk that may not tell its bytes
abbrev pub MayBeWritten : Option (List ℕ) → ℕ → List ℕ → Option (List ℕ) → Type 0
MayBeWritten None at bytes after = after ≡ None
MayBeWritten (Some image) at bytes after = (left : List ℕ) × (after ≡ Some left) × IsPartlyWritten image at bytes left

-- A source gave n bytes of those that it had left, and none only where none was left.
abbrev pub Gives : ℕ → List ℕ → Option (List ℕ) → Option (List ℕ) → Type 0
Gives n into None after = after ≡ None
Gives n into (Some left) after =
    (n ≤ length left) × (take n into ≡ take n left) × (after ≡ Some (drop n left)) × (n ≡ 0 → left ≡ [])

-- A sink took a front of these bytes behind those that it had.
abbrev pub MayBeAppended : Option (List ℕ) → List ℕ → Option (List ℕ) → Type 0
MayBeAppended None bytes after = after ≡ None
MayBeAppended (Some kept) bytes after = (n : ℕ) × (n ≤ length bytes) × (after ≡ Some (kept ++ take n bytes))

-- What a chunk map keeps of its lists. Only the map's own functions need it.
use Rattle.std.specs.Prelude.{◌≡◌, ℕ, ◌+◌, ◌≤◌, ◌<◌, Bool, true, false, ◌||◌, ◌⊎◌, nat_le, List, [], ◌∷◌, length, take, Option, Some, None, if◌then◌else◌}
use Rattle.std.specs.Option.{IfSome}
use Rattle.std.specs.Ordering.{nat_cmp}
use Rattle.std.specs.Map.{lookup}
use Rattle.std.specs.BTreeMap.{is_at}
use Rattle.std.specs.List.{list_any, All, AllAdjacentBelow, Contains}
use Rattle.std.specs.List.Sorted.{IsNonDecreasingBy}
use Rattle.verdict.specs.Chunks.{holds_range}
use Rattle.verdict.specs.declared.place.Chunk.{Chunk}
use Rattle.volume_items.specs.ChunkOrder.{by_start}
use Rattle.volume_items.specs.MapRules.{have_common, meets_chunk}

-- how many of some chunks by start stand in front of those that start behind a place
abbrev pub rank_by_start : ℕ → List Chunk → ℕ
rank_by_start start [] = 0
rank_by_start start (chunk ∷ chunks) = if nat_le chunk.start start then rank_by_start start chunks + 1 else 0

-- the chunks ascend by start
abbrev pub Ascend : List Chunk → Type 0
Ascend chunks = IsNonDecreasingBy (λ (chunk : Chunk). chunk.start) chunks

-- each chunk ends at most where the next one starts
abbrev pub AreApart : List Chunk → Type 0
AreApart chunks = AllAdjacentBelow (λ (chunk next : Chunk). chunk.start + chunk.length ≤ next.start) chunks (length chunks)

-- each chunk's start + length fits 64 bits
abbrev pub AllFit : List Chunk → Type 0
AllFit [] = Unit {0}
AllFit (chunk ∷ chunks) = (chunk.start + chunk.length ≤ 18446744073709551615) × AllFit chunks

-- a copy of a chunk at an offset on the device, as a chunk of the map turned around: it begins at that offset, and its
-- one copy is the range of logical addresses
abbrev pub turned : Chunk → ℕ → Chunk
turned chunk at = record { start = at; length = chunk.length; class = chunk.class; first = chunk.start; second = None }

-- the copy that begins at an offset on the device
unfoldable pub copy_from : List (ℕ × Chunk) → ℕ → Option Chunk
copy_from copies at = lookup (is_at (nat_cmp at)) copies

-- a copy is one of these
abbrev pub Has : List (ℕ × Chunk) → Chunk → Type 0
Has copies copy = copy_from copies copy.start ≡ Some copy

-- copies by offset: each has a byte, and none meet
pub record AreTurned (copies : List (ℕ × Chunk)) : Type 0 where
  pub at_start : (k : ℕ) (copy : Chunk) → copy_from copies k ≡ Some copy → copy.start ≡ k
  pub some : (k : ℕ) (copy : Chunk) → copy_from copies k ≡ Some copy → 0 < copy.length
  pub apart : (k l : ℕ) (copy next : Chunk) → copy_from copies k ≡ Some copy → copy_from copies l ≡ Some next → k < l → k + copy.length ≤ l

-- each copy ends at an offset or before it, or begins n bytes behind it or later
abbrev pub AreOutside : List (ℕ × Chunk) → ℕ → ℕ → Type 0
AreOutside copies at n = (k : ℕ) (copy : Chunk) → copy_from copies k ≡ Some copy → (k + copy.length ≤ at) ⊎ (at + n ≤ k)

-- no copy begins at an offset or before it
abbrev pub NoneFrom : List (ℕ × Chunk) → ℕ → Type 0
NoneFrom copies to = (k : ℕ) → k ≤ to → copy_from copies k ≡ None

-- the last copy that begins at an offset or before it
pub record IsLast (copies : List (ℕ × Chunk)) (to at : ℕ) (copy : Chunk) : Type 0 where
  pub low : at ≤ to
  pub here : copy_from copies at ≡ Some copy
  pub last : (k : ℕ) → at < k → k ≤ to → copy_from copies k ≡ None

-- what a search gives is the only one of some copies that has a byte of the device
pub record IsOnlyCopy (copies : List (ℕ × Chunk)) (p : ℕ) (found : Option Chunk) : Type 0 where
  pub only : (copy : Chunk) → Has copies copy → holds_range copy p 1 ≡ true → found ≡ Some copy
  pub there : IfSome found (λ copy. Has copies copy × (holds_range copy p 1 ≡ true))

-- the copies of a chunk are among these
pub record HasCopies (copies : List (ℕ × Chunk)) (chunk : Chunk) : Type 0 where
  pub first : Has copies (turned chunk chunk.first)
  pub second : IfSome chunk.second (λ at. Has copies (turned chunk at))

-- a copy is one of this chunk's
abbrev pub IsCopyOf : Chunk → Chunk → Type 0
IsCopyOf chunk copy = (at : ℕ) × (copy ≡ turned chunk at) × ((chunk.first ≡ at) ⊎ (chunk.second ≡ Some at))

-- a copy is one of a chunk among these
abbrev pub IsOfOne : List Chunk → Chunk → Type 0
IsOfOne chunks copy = (chunk : Chunk) × Contains chunks chunk × IsCopyOf chunk copy

-- n bytes at an offset have no byte in common with one of these copies
abbrev pub IsFree : ℕ → ℕ → List (ℕ × Chunk) → Type 0
IsFree at n copies = (copy : Chunk) → Has copies copy → have_common at n copy.start copy.length ≡ false

-- the copies of a chunk have no byte in common with one of these copies, nor with one another
pub record AreFree (copies : List (ℕ × Chunk)) (chunk : Chunk) : Type 0 where
  pub first : IsFree chunk.first chunk.length copies
  pub second : IfSome chunk.second (λ at. IsFree at chunk.length copies × (have_common at chunk.length chunk.first chunk.length ≡ false))

-- no copy of a chunk meets one of an earlier chunk
pub record IsClearOf (chunk : Chunk) (earlier : Chunk) : Type 0 where
  pub first : meets_chunk chunk.first chunk.length earlier ≡ false
  pub second : IfSome chunk.second (λ at. meets_chunk at chunk.length earlier ≡ false)

-- the copies of a chunk have no byte in common with one another
abbrev pub IsClear : Chunk → Type 0
IsClear chunk = IfSome chunk.second (λ at. have_common at chunk.length chunk.first chunk.length ≡ false)

-- no copy of these chunks meets another
abbrev pub AllClear : List Chunk → Type 0
AllClear [] = Unit {0}
AllClear (chunk ∷ chunks) = All (λ (later : Chunk). IsClearOf later chunk) chunks × IsClear chunk × AllClear chunks

-- no copy of a chunk meets an earlier one
pub record MeetsNone (before : List Chunk) (chunk : Chunk) : Type 0 where
  pub first : list_any (meets_chunk chunk.first chunk.length) before ≡ false
  pub second : IfSome chunk.second (λ at. (list_any (meets_chunk at chunk.length) before || have_common at chunk.length chunk.first chunk.length) ≡ false)

-- what a chunk map keeps of its lists: the second has the chunks of the first by start, all fit, and where the map says
-- that they are apart they are; the copies by offset do not meet, and where the map is said to be clear they are those of
-- all chunks; and none of so many of the first chunks by start meet
pub record InOrder (chunks sorted : List Chunk) (copies : List (ℕ × Chunk)) (apart clear : Bool) (front : ℕ) : Type 0 where
  pub order : sorted ≡ by_start chunks
  pub fit : AllFit chunks
  pub distances : apart ≡ true → AreApart sorted
  pub around : AreTurned copies
  pub there : clear ≡ true → All (HasCopies copies) chunks
  pub sources : clear ≡ true → (copy : Chunk) → Has copies copy → IsOfOne chunks copy
  pub none_meet : clear ≡ true → AllClear sorted
  pub front_clear : AllClear (take front sorted)

-- what a search gives is the only one of some chunks that holds n bytes from a logical address on whole
pub record IsOnlyHome (chunks : List Chunk) (a n : ℕ) (found : Option Chunk) : Type 0 where
  pub only : All (λ (chunk : Chunk). holds_range chunk a n ≡ true → found ≡ Some chunk) chunks
  pub there : IfSome found (λ chunk. Contains chunks chunk × (holds_range chunk a n ≡ true))

-- The runs of the cache: an ordered map from the offset where a run begins to the run's bytes.
use Rattle.std.specs.Prelude.{ℕ, ◌≡◌, ◌+◌, ◌-◌, ◌≢◌, ◌⊎◌, ◌≤◌, ◌<◌, List, [], ◌∷◌, ◌++◌, length, take, drop, Option, Some, None}
use Rattle.std.specs.Ordering.{nat_cmp}
use Rattle.std.specs.Map.{lookup}
use Rattle.std.specs.BTreeMap.{is_at}
use Rattle.std.specs.FinMap.{FinMap}
use Rattle.write_cache.specs.Cache.{with_bytes}
use Rattle.write_cache.specs.Pieces.{Piece, AreApart, AreDisjoint, map_of}

-- the runs as pieces, in the order of their offsets
abbrev pub pieces_of : List (ℕ × List ℕ) → List Piece
pieces_of [] = []
pieces_of (run ∷ runs) = record { at = run.0; bytes = run.1 } ∷ pieces_of runs

-- each piece ends at most at this offset
abbrev pub EndBy : ℕ → List Piece → Type 0
EndBy end [] = Unit {0}
EndBy end (piece ∷ pieces) = (piece.at + length piece.bytes ≤ end) × EndBy end pieces

-- the runs of a cache: they are disjoint, and each ends at an offset of 64 bits
abbrev pub AreKept : List (ℕ × List ℕ) → Type 0
AreKept runs = AreDisjoint 0 (pieces_of runs) × EndBy 18446744073709551615 (pieces_of runs)

-- runs of a cache of which no two touch
abbrev pub AreJoined : List (ℕ × List ℕ) → Type 0
AreJoined runs = AreApart 0 (pieces_of runs) × EndBy 18446744073709551615 (pieces_of runs)

-- runs of a cache that make this map
pub record Hold (runs : List (ℕ × List ℕ)) (m : FinMap nat_cmp ℕ) : Type 0 where
  pub kept : AreKept runs
  pub map : map_of (pieces_of runs) ≡ m

-- the later runs make the earlier ones' map with bytes put over it, or that map itself
abbrev pub HoldPut : List (ℕ × List ℕ) → List (ℕ × List ℕ) → ℕ → List ℕ → Type 0
HoldPut old new at bytes = Hold new (with_bytes (map_of (pieces_of old)) at bytes)

abbrev pub HoldStill : List (ℕ × List ℕ) → List (ℕ × List ℕ) → Type 0
HoldStill old new = Hold new (map_of (pieces_of old))

-- a run over which bytes are laid from a place on
abbrev pub laid_over : List ℕ → ℕ → List ℕ → List ℕ
laid_over base from bytes = take from base ++ (bytes ++ drop (from + length bytes) base)

-- the bytes of the run that begins at an offset
unfoldable pub run_at : List (ℕ × List ℕ) → ℕ → Option (List ℕ)
run_at runs k = lookup (is_at (nat_cmp k)) runs

-- no run begins at an offset or before it
abbrev pub NoneFrom : List (ℕ × List ℕ) → ℕ → Type 0
NoneFrom runs to = (k : ℕ) → k ≤ to → run_at runs k ≡ None

-- the last run that begins at an offset or before it
pub record IsLast (runs : List (ℕ × List ℕ)) (to at : ℕ) (bytes : List ℕ) : Type 0 where
  pub low : at ≤ to
  pub here : run_at runs at ≡ Some bytes
  pub last : (k : ℕ) → at < k → k ≤ to → run_at runs k ≡ None

-- the last run that begins at an offset or before it ends at another or behind it
pub record Reaches (runs : List (ℕ × List ℕ)) (at to begin : ℕ) : Type 0 where
  pub bytes : List ℕ
  pub last : IsLast runs to begin bytes
  pub end : at ≤ begin + length bytes

-- no run that begins at or before an offset ends at another or behind it
abbrev pub NoneReaches : List (ℕ × List ℕ) → ℕ → ℕ → Type 0
NoneReaches runs at to = (k : ℕ) (bytes : List ℕ) → run_at runs k ≡ Some bytes → k ≤ to → k + length bytes < at

-- the runs as they are
abbrev pub AreSame : List (ℕ × List ℕ) → List (ℕ × List ℕ) → Type 0
AreSame runs left = (k : ℕ) → run_at left k ≡ run_at runs k

-- the runs with other bytes in the one that begins at an offset
pub record Replaces (runs left : List (ℕ × List ℕ)) (begin : ℕ) (change : List ℕ → List ℕ) : Type 0 where
  pub here : (base : List ℕ) → run_at runs begin ≡ Some base → run_at left begin ≡ Some (change base)
  pub others : (k : ℕ) → k ≢ begin → run_at left k ≡ run_at runs k

-- the runs with one in place of those that begin in a range
pub record Laid (runs left : List (ℕ × List ℕ)) (begin end : ℕ) (bytes : List ℕ) : Type 0 where
  pub here : run_at left begin ≡ Some bytes
  pub gone : (k : ℕ) → begin < k → k ≤ end → run_at left k ≡ None
  pub stay : (k : ℕ) → (k < begin) ⊎ (end < k) → run_at left k ≡ run_at runs k

-- a run that reaches an offset, and the last that begins in as many bytes from there on or at their end
pub record Meet (runs : List (ℕ × List ℕ)) (begin last at size : ℕ) : Type 0 where
  pub base : List ℕ
  pub behind : List ℕ
  pub first : run_at runs begin ≡ Some base
  pub low : begin ≤ at
  pub reach : at ≤ begin + length base
  pub order : begin < last
  pub is_last : IsLast runs (at + size) last behind
  pub fits : at + size < 18446744073709551616
  pub fits_behind : last + length behind < 18446744073709551616

-- two runs in one, with bytes between them that end the first and begin the other
pub record JoinsAt (runs left : List (ℕ × List ℕ)) (begin last at : ℕ) (bytes : List ℕ) : Type 0 where
  pub base : List ℕ
  pub behind : List ℕ
  pub first : run_at runs begin ≡ Some base
  pub is_last : IsLast runs (at + length bytes) last behind
  pub laid : Laid runs left begin (at + length bytes)
      (take (at - begin) base ++ (bytes ++ drop (at + length bytes - last) behind))

-- the runs without those that begin behind one offset and no further than at another
pub record AreCleared (runs left : List (ℕ × List ℕ)) (after to : ℕ) : Type 0 where
  pub gone : (k : ℕ) → after < k → k ≤ to → run_at left k ≡ None
  pub stay : (k : ℕ) → (k ≤ after) ⊎ (to < k) → run_at left k ≡ run_at runs k

-- no run begins at an offset or behind it
abbrev pub NoneBehind : List (ℕ × List ℕ) → ℕ → Type 0
NoneBehind runs from = (k : ℕ) → from ≤ k → run_at runs k ≡ None

-- the first run that begins at an offset or behind it
pub record IsFirst (runs : List (ℕ × List ℕ)) (from at : ℕ) : Type 0 where
  pub bytes : List ℕ
  pub low : from ≤ at
  pub here : run_at runs at ≡ Some bytes
  pub first : (k : ℕ) → from ≤ k → k < at → run_at runs k ≡ None

-- the runs with the one that begins at a later offset appended to an earlier one
pub record Appends (runs left : List (ℕ × List ℕ)) (begin end : ℕ) : Type 0 where
  pub here : (base more : List ℕ) → run_at runs begin ≡ Some base → run_at runs end ≡ Some more → run_at left begin ≡ Some (base ++ more)
  pub gone : run_at left end ≡ None
  pub others : (k : ℕ) → k ≢ begin → k ≢ end → run_at left k ≡ run_at runs k

-- the runs with some appended to the one that begins at an offset, which ends at another then
pub record Grows (runs left : List (ℕ × List ℕ)) (begin end : ℕ) : Type 0 where
  pub bytes : List ℕ
  pub here : run_at left begin ≡ Some bytes
  pub end_is : begin + length bytes ≡ end
  pub others : (k : ℕ) (bs : List ℕ) → k ≢ begin → run_at left k ≡ Some bs → run_at runs k ≡ Some bs
  pub still : HoldStill runs left

-- the same, where no run begins at its end
pub record IsGrown (runs left : List (ℕ × List ℕ)) (begin end : ℕ) : Type 0 where
  pub grows : Grows runs left begin end
  pub alone : run_at left end ≡ None

-- no run that begins before an offset touches the one behind it
abbrev pub AreApartBefore : List (ℕ × List ℕ) → ℕ → Type 0
AreApartBefore runs from =
    (k l : ℕ) (bs cs : List ℕ) → run_at runs k ≡ Some bs → run_at runs l ≡ Some cs → k < from → k < l → k + length bs < l

-- the later runs are joined, and make the earlier ones' map
pub record JoinsAll (old new : List (ℕ × List ℕ)) : Type 0 where
  pub kept : AreKept new
  pub joined : AreJoined new
  pub map : map_of (pieces_of new) ≡ map_of (pieces_of old)

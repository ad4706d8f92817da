-- The pieces of the pending writes: the maximal runs of offsets at which the map has a byte, in rising order.
use Rattle.std.specs.Prelude.{ℕ, ◌≡◌, ◌+◌, ◌<◌, ◌≤◌, List, [], ◌∷◌, length}
use Rattle.std.specs.Ordering.{nat_cmp}
use Rattle.std.specs.FinMap.{FinMap, empty}
use Rattle.write_cache.specs.Cache.{with_bytes}

-- a piece: the offset on the device where it begins, and its bytes
pub record Piece : Type 0 where
  pub at : ℕ
  pub bytes : List ℕ

-- the map that pieces make
unfoldable pub map_of : List Piece → FinMap nat_cmp ℕ
map_of [] = empty
map_of (piece ∷ pieces) = with_bytes (map_of pieces) piece.at piece.bytes

-- each piece has a byte, the first begins at this offset or behind it, and each other behind the one before
-- without touching it
abbrev pub AreApart : ℕ → List Piece → Type 0
AreApart from [] = Unit {0}
AreApart from (piece ∷ pieces) =
    (from ≤ piece.at) × (0 < length piece.bytes) × AreApart (piece.at + length piece.bytes + 1) pieces

-- each piece has a byte, the first begins at this offset or behind it, and each other where the one before ends
-- or behind that
abbrev pub AreDisjoint : ℕ → List Piece → Type 0
AreDisjoint from [] = Unit {0}
AreDisjoint from (piece ∷ pieces) =
    (from ≤ piece.at) × (0 < length piece.bytes) × AreDisjoint (piece.at + length piece.bytes) pieces

-- the pieces of a map
pub record ArePiecesOf (m : FinMap nat_cmp ℕ) (pieces : List Piece) : Type 0 where
  pub apart : AreApart 0 pieces
  pub whole : map_of pieces ≡ m

-- parts of a map: its bytes in disjoint runs in rising order, some of which may touch
pub record ArePartsOf (m : FinMap nat_cmp ℕ) (parts : List Piece) : Type 0 where
  pub disjoint : AreDisjoint 0 parts
  pub whole : map_of parts ≡ m

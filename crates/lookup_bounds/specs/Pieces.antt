-- The pieces of pending writes: each map has them.
use Rattle.std.specs.Prelude.{◌≡◌, ℕ, List, length}
use Rattle.std.specs.Ordering.{nat_cmp}
use Rattle.std.specs.FinMap.{FinMap}
use Rattle.write_cache.specs.Pieces.{ArePiecesOf, Piece}
use Rattle.lookup_bounds.specs.Work.{runs_in}

-- pieces of a map, one for each maximal run of its bytes
pub record HasPieces (pending : FinMap nat_cmp ℕ) : Type 0 where
  pub pieces : List Piece
  pub are : ArePiecesOf pending pieces
  pub count : length pieces ≡ runs_in pending

-- each map has such pieces
abbrev pub PiecesLaw : Type 0
PiecesLaw = (pending : FinMap nat_cmp ℕ) → HasPieces pending

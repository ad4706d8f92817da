-- The pieces that the cache lends, one after the other.
use Rattle.std.specs.Prelude.{ℕ, List}
use denote.Ref.{Bor}
use Rattle.write_cache.specs.declared.pieces.Pieces.{Pieces}
use Rattle.write_cache.specs.Pieces.{Piece}
use Rattle.write_cache.specs.Runs.{pieces_of}

-- the piece that an item lends
abbrev pub piece_lent : ℕ × Bor (List ℕ) → Piece
piece_lent item = record { at = item.0; bytes = item.1.now }

-- the pieces that are still to come
abbrev pub pieces_left : Pieces → List Piece
pieces_left p = pieces_of p.entries

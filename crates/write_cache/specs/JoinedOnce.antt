-- That no two runs touch is a fact with one proof at most.
use Rattle.std.specs.Prelude.{ℕ, ◌+◌, List, [], ◌∷◌, length}
use Rattle.write_cache.specs.Pieces.{Piece, AreApart}
use Rattle.write_cache.specs.Runs.{pieces_of, EndBy, AreJoined}
use mathlib.Core.HLevel.{Unit-prop, ×_prop}
use denote.Struct.Props.{props}

AreApart-prop : (from : ℕ) (pieces : List Piece) → IsProp (AreApart from pieces)
AreApart-prop from [] = Unit-prop
AreApart-prop from (piece ∷ pieces) =
    let rest : IsProp (AreApart (piece.at + length piece.bytes + 1) pieces) = AreApart-prop (piece.at + length piece.bytes + 1) pieces in
    Prim.hlevel (props, rest)

EndBy-prop : (end : ℕ) (pieces : List Piece) → IsProp (EndBy end pieces)
EndBy-prop end [] = Unit-prop
EndBy-prop end (piece ∷ pieces) = let rest : IsProp (EndBy end pieces) = EndBy-prop end pieces in Prim.hlevel (props, rest)

pub AreJoined-prop : (runs : List (ℕ × List ℕ)) → IsProp (AreJoined runs)
AreJoined-prop runs = ×_prop (AreApart-prop 0 (pieces_of runs)) (EndBy-prop 18446744073709551615 (pieces_of runs))

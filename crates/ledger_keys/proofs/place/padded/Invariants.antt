use Rattle.std.proofs.Common.{◌≡◌, ◌++◌, [], ◌∷◌, take, drop}
use Rattle.ledger_keys.proofs.place.padded.Given as goal

abbrev pub invariant-loop-i : goal.invariant-loop-i
invariant-loop-i l = record {
  done : l.bytes ≡ take l.i l.tail ++ drop l.i (0 ∷ 0 ∷ 0 ∷ 0 ∷ 0 ∷ 0 ∷ 0 ∷ 0 ∷ 0 ∷ 0 ∷ 0 ∷ 0 ∷ []);
}

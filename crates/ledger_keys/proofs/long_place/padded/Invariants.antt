use Rattle.std.proofs.Common.{◌≡◌, ◌++◌, take, drop, replicate}
use Rattle.ledger_keys.proofs.long_place.padded.Given as goal

abbrev pub invariant-loop-i : goal.invariant-loop-i
invariant-loop-i l = record {
  done : l.bytes ≡ take l.i l.tail ++ drop l.i (replicate 36 0);
}

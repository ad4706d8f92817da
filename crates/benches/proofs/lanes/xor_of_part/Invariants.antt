use Rattle.std.proofs.Common.{◌≡◌}
use Rattle.benches.proofs.lanes.xor_of_part.Given as goal

-- each block that comes has the size of a block
abbrev pub invariant-loop-block : goal.invariant-loop-block
invariant-loop-block l = l.eight.size ≡ 16384

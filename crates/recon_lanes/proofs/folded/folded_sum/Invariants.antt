use Rattle.std.proofs.Common.{length}
use Rattle.recon_lanes.proofs.Tails.{Left}
use Rattle.recon_lanes.proofs.folded.folded_sum.Given as goal

-- what is left comes to the same as all
abbrev pub invariant-loop-rest : goal.invariant-loop-rest
invariant-loop-rest l = Left l.fn.bytes l.buffer l.rest

abbrev pub decreases-loop-rest : goal.decreases-loop-rest
decreases-loop-rest l = length l.rest

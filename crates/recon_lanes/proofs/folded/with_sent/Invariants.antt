use Rattle.recon_lanes.proofs.Tails.{Sums}
use Rattle.recon_lanes.proofs.folded.with_sent.Given as goal

-- the first places have their sums
abbrev pub invariant-loop-i : goal.invariant-loop-i
invariant-loop-i l = Sums l.before l.bytes l.sums l.i

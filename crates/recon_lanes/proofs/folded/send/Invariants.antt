use Rattle.recon_lanes.specs.Folded.{Folds}
use Rattle.recon_lanes.proofs.folded.send.Given as goal

-- so many bytes were sent on
abbrev pub invariant-loop-i : goal.invariant-loop-i
invariant-loop-i l = Folds l.fn.buffer l.buffer l.bytes l.i

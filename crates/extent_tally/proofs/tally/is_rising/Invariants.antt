use Rattle.std.proofs.Common.{drop}
use Rattle.extent_tally.proofs.Settled.{Rises}
use Rattle.extent_tally.proofs.tally.is_rising.Given as goal

-- where those that are left rise from the last address on, all do
abbrev pub invariant-loop-class : goal.invariant-loop-class
invariant-loop-class l = Rises l.low (drop l.class-index l.list) → Rises 0 l.list

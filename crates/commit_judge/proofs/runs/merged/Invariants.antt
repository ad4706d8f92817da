use Rattle.commit_judge.proofs.span_tables.Runs.{AreMerged}
use Rattle.commit_judge.proofs.runs.merged.Given as goal

-- the runs so far are merged
abbrev pub invariant-loop-run : goal.invariant-loop-run
invariant-loop-run l = AreMerged l.runs l.rest l.run-index l.some.items l.«open»

use Rattle.std.proofs.Common.{◌-◌}
use Rattle.write_cache.specs.Runs.{Grows}
use Rattle.write_cache.proofs.runs.join_run.Given as goal

-- some of the runs behind the first are appended to it
abbrev pub invariant-loop-alloc : goal.invariant-loop-alloc
invariant-loop-alloc l = Grows l.fn.runs.entries l.runs.entries l.begin l.end

abbrev pub decreases-loop-alloc : goal.decreases-loop-alloc
decreases-loop-alloc l = 18446744073709551616 - l.end

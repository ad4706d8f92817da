use Rattle.std.proofs.Common.{◌≡◌, ◌+◌, ◌-◌, ◌<◌, ◌≤◌, ◌++◌, length}
use Rattle.trace_maker.specs.Plan.{plan_from, plan_of}
use Rattle.trace_maker.proofs.workload.plan.Given as goal

-- the operations so far and those of the commits that are left are the plan
abbrev pub invariant-loop-before : goal.invariant-loop-before
invariant-loop-before l = record {
  some : 0 < length l.planner.directories;
  few : l.planner.subvolumes ≤ l.before;
  planned : l.ops.items ++ plan_from (l.commits - l.before) (l.before + 1) l.planner ≡ plan_of l.fn.seed l.commits;
}

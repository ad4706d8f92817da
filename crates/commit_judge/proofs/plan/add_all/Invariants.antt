use Rattle.std.proofs.Common.{◌≡◌, ◌-◌, ◌++◌}
use Rattle.commit_laws.specs.Paired.{added_from}
use Rattle.commit_judge.proofs.plan.add_all.Given as goal

-- with what is left, all are put
abbrev pub invariant-loop-new : goal.invariant-loop-new
invariant-loop-new l = l.changes.items ++ added_from l.new (l.count - l.new) ≡ l.initial.changes.items ++ added_from 0 l.count

use Rattle.std.proofs.Common.{◌≡◌, ◌-◌, ◌++◌}
use Rattle.commit_laws.specs.Paired.{removed_from}
use Rattle.commit_judge.proofs.plan.remove_all.Given as goal

-- with what is left, all are put
abbrev pub invariant-loop-old : goal.invariant-loop-old
invariant-loop-old l = l.changes.items ++ removed_from l.old (l.count - l.old) ≡ l.initial.changes.items ++ removed_from 0 l.count

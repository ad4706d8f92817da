use Rattle.std.proofs.Common.{drop}
use Rattle.change_records.proofs.MadeLaws.{IsHalf}
use Rattle.change_records.proofs.kept.Made.of.Given as goal

abbrev pub invariant-loop-change : goal.invariant-loop-change
invariant-loop-change l = IsHalf l.old l.new l.changes (drop l.change-index l.changes) l.made

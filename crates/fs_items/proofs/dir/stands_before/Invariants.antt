use Rattle.std.proofs.Common.{◌≡◌, ◌-◌}
use Rattle.fs_items.proofs.Entries.{stands_from}
use Rattle.fs_items.proofs.dir.stands_before.Given as goal

-- what is left decides
abbrev pub invariant-loop-earlier : goal.invariant-loop-earlier
invariant-loop-earlier l = stands_from l.bytes l.place l.earlier ≡ stands_from l.bytes l.place 0

abbrev pub decreases-loop-earlier : goal.decreases-loop-earlier
decreases-loop-earlier l = l.place - l.earlier

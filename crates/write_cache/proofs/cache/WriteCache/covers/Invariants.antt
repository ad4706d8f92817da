use Rattle.std.proofs.Common.{◌≡◌, ◌+◌, ◌≤◌}
use Rattle.write_cache.proofs.RunLaws.{AreHeld}
use Rattle.write_cache.proofs.cache.WriteCache.covers.Given as goal

-- the bytes before the place are pending, and those that are left lie from it on
abbrev pub invariant-loop-left : goal.invariant-loop-left
invariant-loop-left l = AreHeld l.self l.at l.from × (l.at ≤ l.from) × (l.from + l.left ≡ l.at + l.len)

abbrev pub decreases-loop-left : goal.decreases-loop-left
decreases-loop-left l = l.left

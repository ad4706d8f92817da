use Rattle.std.proofs.Common.{◌-◌}
use Rattle.write_cache.specs.Runs.{HoldStill, AreApartBefore}
use Rattle.write_cache.proofs.runs.join_all.Given as goal

-- the runs make the map that they made, and no run before the place touches the one behind it
abbrev pub invariant-loop-begin : goal.invariant-loop-begin
invariant-loop-begin l = HoldStill l.fn.runs.entries l.runs.entries × AreApartBefore l.runs.entries l.from

abbrev pub decreases-loop-begin : goal.decreases-loop-begin
decreases-loop-begin l = 18446744073709551616 - l.from

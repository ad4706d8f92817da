use Rattle.std.proofs.Common.{◌≡◌}
use Rattle.recon_lanes.specs.Difference.{AreEqualBelow}
use Rattle.recon_lanes.proofs.difference.are_equal_wide.Given as goal

-- as long as nothing differs, the two are equal before the place
abbrev pub invariant-loop-place : goal.invariant-loop-place
invariant-loop-place l = l.different ≡ 0 → AreEqualBelow l.a l.b l.place

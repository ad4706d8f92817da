-- The length of a block stays.
use Rattle.std.proofs.Common.{◌≡◌}
use Rattle.recon_lanes.proofs.tests.the_ninth_is_refused.Given as goal

abbrev pub invariant-loop : goal.invariant-loop
invariant-loop g l = l.eight.size ≡ 9

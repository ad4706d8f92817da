-- What is left decides.
use Rattle.std.proofs.Common.{◌≡◌, ◌-◌, length}
use Rattle.recon_lanes.specs.Difference.{differs_at, least_difference, least_from}
use Rattle.recon_lanes.proofs.difference.first_difference.Given as goal

abbrev pub invariant-loop-place : goal.invariant-loop-place
invariant-loop-place l = least_difference l.fn.a l.fn.b ≡ least_from (differs_at l.fn.a l.fn.b) l.place (length l.fn.a - l.place)

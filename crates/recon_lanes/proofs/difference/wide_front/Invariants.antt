-- Before the front the two are equal, and it stands inside.
use Rattle.std.proofs.Common.{◌≡◌, ℕ, ◌-◌, ◌<◌, ◌≤◌, length, slice_index}
use Rattle.recon_lanes.proofs.difference.wide_front.Given as goal

abbrev pub invariant-loop-front : goal.invariant-loop-front
invariant-loop-front l = (l.front ≤ length l.a) × ((place : ℕ) → place < l.front → slice_index l.a place ≡ slice_index l.b place)

abbrev pub decreases-loop-front : goal.decreases-loop-front
decreases-loop-front l = length l.a - l.front

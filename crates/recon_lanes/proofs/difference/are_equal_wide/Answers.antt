use Rattle.recon_lanes.proofs.Lanes.{none_differs}
use Rattle.recon_lanes.proofs.difference.are_equal_wide.Goals as goal

pub loop-place-preserved : goal.loop-place-preserved
loop-place-preserved c none = none_differs c.args.a.now c.args.b.now c.loop-place.different c.loop-place.place c.loop-place.invariant none

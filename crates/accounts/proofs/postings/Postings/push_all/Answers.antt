use Rattle.std.proofs.Common.{length, ap, arith}
use Rattle.accounts.proofs.SoFar.{so_far_stops}
use Rattle.accounts.proofs.postings.Postings.push_all.Goals as goal

pub returns-in_err-push : goal.returns-in_err-push
returns-in_err-push g c = so_far_stops _ _ _ _ _ _ c.from_residual.ensures.0 c.loop-posting.invariant (omega (arith, ap length c.in-Some.ensures.steps)) c.in_err-push.ensures.err

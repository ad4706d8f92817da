use Rattle.std.proofs.Common.{arith, refl}
use Rattle.volume_items.proofs.Rows.{stripes_fit}
use Rattle.volume_items.proofs.chunk.stripes_fault.Goals as goal

pub loop-stripe-init : goal.loop-stripe-init
loop-stripe-init c = rw c.into_iter-stripe-iterator.ensures.into_iter_gives (record { decides = refl; room = omega (arith, stripes_fit c.args.stripes.left.now) })

use Rattle.std.proofs.Common.{arith}
use Rattle.std.specs.Prelude.{None}
use Rattle.change_records.proofs.HomeLaws.{not_apart}
use Rattle.change_records.proofs.homes.stand_apart.Goals as goal

pub returns-then-from-end : goal.returns-then-from-end
returns-then-from-end c = (
  λ e. absurd (cc),
  λ apart.
      absurd (not_apart c.args.chunks.now c.loop-chunk.chunk-index c.loop-chunk.end (record { start = 0; length = 0; class = 0; first = 0; second = None }) c.loop-chunk-test.true
      (let low = c.if-from-end.true in let is = c.from.ensures in omega (arith, low, is))
      c.loop-chunk.invariant.first c.loop-chunk.invariant.last apart),
)

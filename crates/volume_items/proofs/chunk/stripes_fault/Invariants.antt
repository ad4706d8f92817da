use Rattle.std.proofs.Common.{◌≡◌, ◌+◌, ◌*◌, ◌≤◌, length}
use Rattle.verdict.specs.Rules.{first_failing}
use Rattle.volume_items.specs.ChunkRow.{stripe_rows}
use Rattle.volume_items.specs.ChunkItems.{stripes_left}
use Rattle.volume_items.proofs.chunk.stripes_fault.Given as goal

-- what is left decides, and its offsets have room
abbrev pub invariant-loop-stripe : goal.invariant-loop-stripe
invariant-loop-stripe l = record {
  decides : first_failing (stripe_rows l.at l.key l.length l.offset (stripes_left l.stripe-iterator)) ≡ first_failing (stripe_rows l.at l.key l.length 48 (stripes_left l.fn.stripes));
  room : l.offset + 32 * length (stripes_left l.stripe-iterator) ≤ 48 + length l.fn.stripes.left.now;
}

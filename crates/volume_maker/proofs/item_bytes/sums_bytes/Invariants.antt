use Rattle.std.proofs.Common.{◌≡◌}
use Rattle.volume_maker.specs.Items.{sums_bytes}
use Rattle.volume_maker.proofs.item_bytes.sums_bytes.Given as goal

abbrev pub invariant-loop-sector : goal.invariant-loop-sector
invariant-loop-sector l = l.fields ≡ sums_bytes l.sum l._sector

use Rattle.std.proofs.Common.{◌≡◌, ◌<◌, ℕ}
use Rattle.std.specs.Prelude.{slice_get}
use Rattle.ledger_keys.specs.Kept.{sums_at}
use Rattle.ledger_maps.proofs.page.Page.is_zero.Given as goal

-- those before have no sums
abbrev pub invariant-loop-slot : goal.invariant-loop-slot
invariant-loop-slot l = (i : ℕ) → i < l.slot → (n : ℕ) → sums_at (slice_get l.self.slots.items i) n ≡ 0

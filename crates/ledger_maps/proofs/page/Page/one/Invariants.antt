use Rattle.std.proofs.Common.{◌≡◌, length}
use Rattle.ledger_maps.specs.Pages.{AreZero}
use Rattle.ledger_maps.proofs.page.Page.one.Given as goal

-- so many accounts without sums
abbrev pub invariant-loop-slot : goal.invariant-loop-slot
invariant-loop-slot l = record {
  none : AreZero l.slots.items;
  count : length l.slots.items ≡ l._slot;
}

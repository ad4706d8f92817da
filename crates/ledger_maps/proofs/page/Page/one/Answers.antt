use Rattle.std.proofs.Common.{[], arith, set, subst}
use Rattle.ledger_maps.specs.Pages.{SlotChanges}
use Rattle.ledger_keys.specs.Sums.{raise}
use Rattle.ledger_maps.proofs.PagesLaws.{one_changes}
use Rattle.ledger_maps.proofs.page.Page.one.Goals as goal

pub returns : goal.returns
returns c =
    subst (λ s. SlotChanges raise [] (set c.loop-slot.slots.items c.from.result c.in_ok-slots.field-0) s c.args.field c.args.amount) c.from.ensures
    (one_changes c.loop-slot.slots.items c.in_ok-slots.field-0 c.from.result c.args.field c.args.amount c.loop-slot.invariant.none
    (omega (arith, c.requires.within, c.loop-slot.invariant.count, c.loop-slot-test.false, c.from.ensures)) c.ranges.amount.fits c.in_ok-slots.ensures)

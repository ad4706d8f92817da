use Rattle.std.proofs.Common.{subst, sym}
use Rattle.ledger_maps.specs.Entries.{Changes, by_key}
use Rattle.ledger_maps.specs.Pages.{seats_in}
use Rattle.ledger_keys.specs.Seat.{is_same_page, is_same_seat}
use Rattle.ledger_keys.specs.Sums.{lower}
use Rattle.ledger_maps.proofs.PagesLaws.{nothing_taken}
use Rattle.ledger_maps.proofs.pages.Pages.take.Goals as goal

-- its page does not stand
pub returns-in_default : goal.returns-in_default
returns-in_default c =
    subst (λ m. Changes is_same_seat lower (seats_in c.args.self.now.map) (seats_in m) c.args.seat.now c.args.field c.args.amount) (sym c.index_of.ensures.map)
    (nothing_taken (by_key is_same_page c.args.self.now.map) c.args.seat.now.page (c.index_of.ensures.none c.in_default.is)
    c.args.seat.now.slot c.args.field c.args.amount)

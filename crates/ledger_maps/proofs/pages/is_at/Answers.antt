use Rattle.std.proofs.Common.{sym, subst, ◌∙◌}
use Rattle.ledger_maps.specs.Entries.{StandsAt}
use Rattle.ledger_keys.specs.Seat.{is_same_page}
use Rattle.ledger_keys.specs.SeatLaws.{same_page}
use Rattle.ledger_maps.proofs.PlacedLaws.{stands}
use Rattle.ledger_maps.proofs.pages.is_at.Goals as goal

pub returns-in-Some : goal.returns-in-Some
returns-in-Some c = λ is.
    subst (λ k. StandsAt is_same_page c.args.map.now c.args.at k) (same_page c.in-Some.there.now c.args.key.now (sym c.eq.ensures ∙ is))
    (stands is_same_page c.args.map.now c.args.at c.in-Some.there.now c.in-Some.field-0-1.now (sym c.in-Some.ensures.entry) c.in-Some.ensures.value)

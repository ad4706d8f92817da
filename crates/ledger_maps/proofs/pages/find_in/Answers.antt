use Rattle.ledger_keys.specs.Seat.{is_same_page}
use Rattle.ledger_keys.specs.SeatLaws.{same_page}
use Rattle.ledger_maps.proofs.PlacedLaws.{stands_found}
use Rattle.ledger_maps.proofs.pages.find_in.Goals as goal

pub returns-clause-found : goal.returns-clause-found
returns-clause-found c =
    stands_found is_same_page same_page c.args.map.now c.in_ok-at.at c.args.key.now c.in_ok-at.field-0-1.now c.in_ok-at.field-0-2.now
    c.in_ok-at.ensures.entry c.in_ok-at.ensures.key c.in_ok-at.ensures.value

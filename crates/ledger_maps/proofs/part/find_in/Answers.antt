use Rattle.ledger_maps.proofs.PlacedLaws.{stands_found}
use Rattle.ledger_maps.proofs.part.find_in.Goals as goal

pub returns-clause-found : goal.returns-clause-found
returns-clause-found g c =
    stands_found g.K.PartialEq.eq g.met.K.Exact.exact c.args.part.now c.in_ok-at.at c.args.key.now c.in_ok-at.field-0-1.now c.in_ok-at.field-0-2.now
    c.in_ok-at.ensures.entry c.in_ok-at.ensures.key c.in_ok-at.ensures.value

use Rattle.std.proofs.Common.{sym, ◌∙◌}
use Rattle.ledger_index.proofs.NamedLaws.{even_side, no_side, side_judged}
use Rattle.ledger_index.proofs.unpaged.Unpaged.least_of_side.Goals as goal

-- no number stands there
pub returns-in_default : goal.returns-in_default
returns-in_default c = λ later after gone is.
    no_side c.args.self.now c.args.place.now c.args.kept.now c.requires later after c.args.first is c.args.side c.in_default.is gone

-- the account keeps its rule
pub returns-then-one-other : goal.returns-then-one-other
returns-then-one-other c = λ later after gone is.
    even_side c.args.self.now c.args.place.now c.args.kept.now c.requires later after c.args.first is c.in-Some.side c.args.side c.in-Some.is
    (sym c.sums-one.ensures.first ∙ c.if-one-other.true ∙ c.sums-one.ensures.second) gone

-- or it is judged
pub returns : goal.returns
returns c = λ later after gone is.
    side_judged c.args.self.now c.args.place.now c.args.kept.now c.requires later after c.args.first is c.in-Some.side c.args.side c.in-Some.is
    c.in_ok-side_account.field-0 c.in_ok-side_account.ensures c.lesser.result c.lesser.ensures gone

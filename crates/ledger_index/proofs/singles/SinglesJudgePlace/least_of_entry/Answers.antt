use Rattle.std.proofs.Common.{sym, ◌∙◌}
use Rattle.ledger_index.proofs.JudgedLaws.{short_judged, short_kept}
use Rattle.ledger_index.proofs.singles.SinglesJudgePlace.least_of_entry.Goals as goal

pub returns-then-not-breaks : goal.returns-then-not-breaks
returns-then-not-breaks c = λ rest is.
    short_kept c.args.self.now rest c.args.place.now c.args.kept.now c.args.first is c.requires c.kind.result c.kind.ensures (sym c.breaks.ensures ∙ c.if-not-breaks.true)

-- the entry breaks its account
pub returns : goal.returns
returns c = λ rest is.
    short_judged c.args.self.now rest c.args.place.now c.args.kept.now c.args.first is c.in_ok-account.field-0 c.in_ok-account.ensures c.lesser.result c.lesser.ensures

use Rattle.ledger_index.proofs.NamedLaws.{even_kept}
use Rattle.ledger_index.proofs.unpaged.UnpagedJudgeLongPlace.least_of_entry.Goals as goal

-- the entry breaks no account
pub returns-then-is_even : goal.returns-then-is_even
returns-then-is_even c = λ rest is.
    even_kept c.args.self.now c.args.place.now c.args.kept.now c.requires rest c.args.first (c.is_even.ensures c.if-is_even.true) is

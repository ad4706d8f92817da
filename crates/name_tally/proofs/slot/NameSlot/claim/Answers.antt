use Rattle.name_tally.proofs.Sums.{same_free}
use Rattle.name_tally.proofs.slot.NameSlot.claim.Goals as goal

pub returns-then-is_free-clause-same : goal.returns-then-is_free-clause-same
returns-then-is_free-clause-same c = same_free c.args.self.now c.fill.new.self (c.is_free.ensures c.if-is_free.true) c.fill.ensures.sums

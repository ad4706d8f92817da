use Rattle.name_tally.proofs.Sums.{same_sort}
use Rattle.name_tally.proofs.slot.NameSlot.claim_sort.Goals as goal

pub returns-then-self-eq0-3-clause-same : goal.returns-then-self-eq0-3-clause-same
returns-then-self-eq0-3-clause-same c =
    same_sort c.args.self.now c.args.sort c.if-self-eq0.true c.if-self-eq0-2.true c.if-self-eq0-3.true

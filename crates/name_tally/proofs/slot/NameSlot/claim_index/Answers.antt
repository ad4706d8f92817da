use Rattle.name_tally.proofs.Sums.{same_index}
use Rattle.name_tally.proofs.slot.NameSlot.claim_index.Goals as goal

pub returns-then-self-eq0-2-clause-same : goal.returns-then-self-eq0-2-clause-same
returns-then-self-eq0-2-clause-same c =
    same_index c.args.self.now c.args.index c.if-self-eq0.true c.if-self-eq0-2.true

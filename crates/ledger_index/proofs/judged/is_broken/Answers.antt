use Rattle.accounts.specs.Broken.{is_broken}
use Rattle.ledger_index.specs.Judged.{breaks}
use Rattle.ledger_index.proofs.judged.is_broken.Goals as goal

pub returns-in-Some : goal.returns-in-Some
unfolding breaks is_broken
returns-in-Some c = c.in-Some.ensures

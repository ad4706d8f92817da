use Rattle.std.proofs.Common.{[]}
use Rattle.ledger_index.specs.Ledger.{sums_of}
use Rattle.touched_accounts.proofs.LeastTouched.{none_touched}
use Rattle.touched_accounts.proofs.touched.judge_touched.Goals as goal

pub returns-clause-least : goal.returns-clause-least
returns-clause-least g c =
    c.judge_more.ensures.least c.args.gone.now (c.judge_more-least.ensures.least [] (none_touched (sums_of c.args.ledger.now)))

use Rattle.span_index.proofs.JudgeLaws.{none_passed, start_walked}
use Rattle.span_index.proofs.judge.start.Goals as goal

pub returns-clause-walked : goal.returns-clause-walked
returns-clause-walked c = λ context table spans. start_walked context table spans c.args.sort

pub returns-clause-passed : goal.returns-clause-passed
returns-clause-passed c = none_passed

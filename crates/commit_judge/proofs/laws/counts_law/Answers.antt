use Rattle.commit_judge.proofs.judgements.Counts.{counts}
use Rattle.commit_judge.proofs.laws.counts_law.Goals as goal

pub returns : goal.returns
returns c = counts c.held_law.ensures c.hot_law.ensures

use Rattle.commit_judge.proofs.judgements.Looks.{few_looks}
use Rattle.commit_judge.proofs.laws.few_looks_law.Goals as goal

pub returns : goal.returns
returns c = few_looks

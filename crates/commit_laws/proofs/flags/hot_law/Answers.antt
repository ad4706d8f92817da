use Rattle.commit_laws.proofs.next_index.Hot.{hot}
use Rattle.commit_laws.proofs.flags.hot_law.Goals as goal

pub returns : goal.returns
returns c = hot

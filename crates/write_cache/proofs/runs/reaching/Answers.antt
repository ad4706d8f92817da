use Rattle.std.proofs.Common.{arith}
use Rattle.write_cache.proofs.PutLaws.{none_reaches}
use Rattle.write_cache.proofs.runs.reaching.Goals as goal

pub returns-else-saturating_sub-bytes : goal.returns-else-saturating_sub-bytes
returns-else-saturating_sub-bytes c = none_reaches c.args.runs.now.entries c.args.at c.args.to c.in_ok-begin.begin c.in_ok-begin.bytes.now c.requires c.in_ok-begin.ensures.found (omega arith)

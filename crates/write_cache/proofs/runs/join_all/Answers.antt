use Rattle.write_cache.proofs.JoinLaws.{apart_on, apart_end}
use Rattle.write_cache.proofs.runs.join_all.Goals as goal

pub loop-begin-preserved : goal.loop-begin-preserved
loop-begin-preserved c = apart_on c.args.runs.now.entries c.loop-begin.runs.entries c.join_run.new.runs.entries c.loop-begin.from c.in-Some.begin c.in_ok-from.from c.loop-begin.invariant c.in-Some.ensures c.in_ok-from.ensures.ok

pub returns-clause-ok : goal.returns-clause-ok
returns-clause-ok c = apart_end c.args.runs.now.entries c.loop-begin.runs.entries c.loop-begin.from c.loop-begin.invariant c.in_default.ensures

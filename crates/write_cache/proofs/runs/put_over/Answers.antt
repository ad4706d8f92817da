use Rattle.write_cache.proofs.PutLaws.{lay_hold, same_runs, ok_so, err_so}
use Rattle.write_cache.proofs.runs.put_over.Goals as goal

pub returns-then-last-at-clause-ok : goal.returns-then-last-at-clause-ok
returns-then-last-at-clause-ok c =
    ok_so c.lay_at.result (λ puts. lay_hold c.args.runs.now.entries c.lay_at.new.runs.entries c.args.last c.args.at c.args.bytes.now
    c.requires.kept c.requires.last c.if-last-at.true c.requires.fits puts c.lay_at.ensures.ordered)
    c.lay_at.ensures.ok

pub returns-then-last-at-clause-err : goal.returns-then-last-at-clause-err
returns-then-last-at-clause-err c =
    err_so c.lay_at.result (λ same. same_runs c.args.runs.now.entries c.lay_at.new.runs.entries c.requires.kept c.lay_at.ensures.ordered same) c.lay_at.ensures.err

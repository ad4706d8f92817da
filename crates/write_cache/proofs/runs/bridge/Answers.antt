use Rattle.write_cache.proofs.PutLaws.{bridge_over, bridge_into, same_runs, on_err}
use Rattle.write_cache.proofs.runs.bridge.Goals as goal

pub returns-in_err-lay_at-clause-err : goal.returns-in_err-lay_at-clause-err
returns-in_err-lay_at-clause-err c = on_err c.from_residual.result (same_runs c.args.runs.now.entries c.lay_at.new.runs.entries c.requires.kept c.lay_at.ensures.ordered c.in_err-lay_at.ensures.err)

pub returns-then-end_of-end-clause-ok : goal.returns-then-end_of-end-clause-ok
returns-then-end_of-end-clause-ok c =
    bridge_over c.args.runs.now.entries c.lay_at.new.runs.entries c.remove_between.new.runs.entries c.args.begin c.args.last c.args.at c.end_of.result c.args.bytes.now
    c.requires.kept c.requires.first c.requires.last c.requires.behind c.requires.fits c.end_of.ensures c.if-end_of-end.true
    c.in_ok-lay_at.ensures.ok c.remove_between.ensures.cleared c.remove_between.ensures.ordered

pub returns-in_err-lay_at-2-clause-err : goal.returns-in_err-lay_at-2-clause-err
returns-in_err-lay_at-2-clause-err c = on_err c.from_residual-in_err-lay_at-2.result (same_runs c.args.runs.now.entries c.lay_at-2.new.runs.entries c.requires.kept c.lay_at-2.ensures.ordered c.in_err-lay_at-2.ensures.err)

pub returns-clause-ok : goal.returns-clause-ok
returns-clause-ok c =
    bridge_into c.args.runs.now.entries c.lay_at-2.new.runs.entries c.remove_between-2.new.runs.entries c.write_at.new.runs.entries c.args.begin c.args.last c.args.at c.end_of.result c.args.bytes.now c.split_at.result.0.now c.split_at.result.1.now
    c.requires.kept c.requires.first c.requires.last c.requires.behind c.requires.fits c.end_of.ensures c.if-end_of-end.false
    c.split_at.ensures.front c.split_at.ensures.back
    c.in_ok-lay_at-2.ensures.ok c.remove_between-2.ensures.cleared c.remove_between-2.ensures.ordered c.write_at.ensures.written c.write_at.ensures.ordered

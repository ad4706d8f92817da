use Rattle.write_cache.proofs.RunLaws.{last_found, none_found}
use Rattle.write_cache.proofs.runs.last_from.Goals as goal

pub returns-in_err-at-clause-found : goal.returns-in_err-at-clause-found
returns-in_err-at-clause-found c =
    rw c.from_residual.ensures (none_found c.args.runs.now c.args.to c.range.result (c.range.ensures.in_range tt) c.in_err-at.ensures.steps.0)

pub returns-clause-found : goal.returns-clause-found
returns-clause-found c =
    rw c.as_slice.ensures (last_found c.args.runs.now c.args.to c.range.result (c.range.ensures.in_range tt) (c.in_ok-at.at.now, c.in_ok-at.bytes.now) c.next_back.new.self c.in_ok-at.ensures.steps)

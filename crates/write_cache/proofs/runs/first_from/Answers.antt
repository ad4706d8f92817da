use Rattle.write_cache.proofs.RunLaws.{first_found, none_from}
use Rattle.write_cache.proofs.runs.first_from.Goals as goal

pub returns-in_err-begin : goal.returns-in_err-begin
returns-in_err-begin c =
    rw c.from_residual.ensures (none_from c.args.runs.now c.args.from c.range.result (c.range.ensures.in_range tt) c.in_err-begin.ensures.steps.0)

pub returns : goal.returns
returns c = first_found c.args.runs.now c.args.from c.range.result (c.range.ensures.in_range tt) (c.in_ok-begin.begin.now, c.in_ok-begin.field-0-1.now) c.next.new.self c.in_ok-begin.ensures.steps

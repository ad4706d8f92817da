use Rattle.chunk_map.proofs.CopyLaws.{last_found, none_found}
use Rattle.chunk_map.proofs.turned.last_from.Goals as goal

pub returns-in_err-begin : goal.returns-in_err-begin
returns-in_err-begin c =
    rw c.from_residual.ensures (none_found c.args.copies.now c.args.to c.range.result (c.range.ensures.in_range tt) c.in_err-begin.ensures.steps.0)

pub returns : goal.returns
returns c =
    last_found c.args.copies.now c.args.to c.range.result (c.range.ensures.in_range tt) (c.in_ok-begin.begin.now, c.in_ok-begin.copy.now) c.next_back.new.self c.in_ok-begin.ensures.steps

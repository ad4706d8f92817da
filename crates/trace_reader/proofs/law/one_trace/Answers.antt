use Rattle.trace_reader.proofs.Records.{one}
use Rattle.trace_reader.proofs.law.one_trace.Goals as goal

pub returns : goal.returns
returns c = one

use Rattle.std.proofs.Common.{arith}
use Rattle.trace_reader.proofs.Filling.{are_bytes}
use Rattle.trace_reader.specs.Trace.{IsBytes}
use Rattle.trace_maker.proofs.Gathering.{if_made}
use Rattle.trace_maker.proofs.writes.held.Goals as goal

pub returns-clause-lawful : goal.returns-clause-lawful
returns-clause-lawful c =
    let bytes = c.args.bytes.now in
    if_made IsBytes c.of.result bytes c.of.ensures (are_bytes bytes (λ i. let f = c.type_inv.bytes i in omega arith))

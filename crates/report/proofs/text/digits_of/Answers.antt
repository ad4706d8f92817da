use Rattle.std.proofs.Common.{arith}
use Rattle.report.proofs.Plain.{hex_plain}
use Rattle.report.proofs.text.digits_of.Goals as goal

pub returns-clause-plain : goal.returns-clause-plain
returns-clause-plain c = hex_plain c.args.bytes.now (λ k. let item = c.type_inv.bytes k in omega arith)

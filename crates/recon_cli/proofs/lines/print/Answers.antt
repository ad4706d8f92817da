use Rattle.std.proofs.Common.{rules}
use Rattle.recon_cli.proofs.Handing.{one_line}
use Rattle.recon_cli.proofs.lines.print.Goals as goal

pub returns-in-Ok-write-clause-lines : goal.returns-in-Ok-write-clause-lines
returns-in-Ok-write-clause-lines g c = one_line c.args.line.now c.in-Ok-write.ensures.piece (search rules)

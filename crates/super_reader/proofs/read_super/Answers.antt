use Rattle.std.proofs.Common.{◌∙◌, sym}
use Rattle.super_reader.proofs.SuperLaws.{fields_readable}
use Rattle.super_reader.proofs.read_super.Goals as goal

pub returns-in-None-clause-readable : goal.returns-in-None-clause-readable
returns-in-None-clause-readable c = rw c.fields_of.ensures (fields_readable c.args.bytes.now (sym c.fault_of.ensures ∙ c.in-None.is))

use Rattle.std.proofs.Common.{refl}
use Rattle.trace_reader.proofs.Calling.{record_failed}
use Rattle.trace_reader.proofs.reader.TraceReader.next.Goals as goal

pub returns-in-Err-read_record-clause-told : goal.returns-in-Err-read_record-clause-told
returns-in-Err-read_record-clause-told g c =
    record_failed _ _ _ _ _ _ c.in-Err-read_record.fault c.self.view_is refl c.in_default.ensures.told c.in-Err-read_record.ensures.told

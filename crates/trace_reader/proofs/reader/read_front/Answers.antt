use Rattle.trace_reader.proofs.Filling.{other_header}
use Rattle.trace_reader.proofs.reader.read_front.Goals as goal

pub returns-else-eq-clause-told : goal.returns-else-eq-clause-told
returns-else-eq-clause-told g c =
    other_header _ _ c.fill.new.piece c.fill.auto.piece c.if-eq.ensures c.in_ok-fill.ensures.told

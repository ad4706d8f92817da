use Rattle.std.proofs.Common.{◌≡◌, take}
use Rattle.trace_reader.specs.Trace.{spelling_of_all}
use Rattle.trace_maker.proofs.Sinking.{and_then}
use Rattle.trace_maker.proofs.make.put_all.Given as goal

abbrev pub invariant-loop-event : goal.invariant-loop-event
invariant-loop-event g l = record {
  gained : g.K.Sink.kept l.out ≡ and_then (g.K.Sink.kept l.fn.out) (spelling_of_all (take l.event-index l.events));
  faults : g.K.Sink.faults l.out ≡ g.K.Sink.faults l.fn.out;
}

use Rattle.std.proofs.Common.{◌≡◌, ◌+◌}
use Rattle.volume_maker.specs.Live.{all_blocks, AreInChunk, IsUpTo}
use Rattle.trace_maker.proofs.Making.{SoFar}
use Rattle.trace_maker.proofs.make.make_trace.Given as goal

abbrev pub invariant-loop-op : goal.invariant-loop-op
invariant-loop-op g l = record {
  number : l.k ≡ l.op-index;
  in_chunk : AreInChunk (all_blocks l.maker.trees);
  up_to : IsUpTo (l.k + 1) (all_blocks l.maker.trees);
  gained : SoFar l.op-items l.op-index l.room l.maker.volume (g.K.Sink.kept l.fn.out) (g.K.Sink.kept l.out);
  faults : g.K.Sink.faults l.out ≡ g.K.Sink.faults l.fn.out;
}

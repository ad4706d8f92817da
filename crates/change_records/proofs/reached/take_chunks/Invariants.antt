use Rattle.std.proofs.Common.{◌+◌, ◌≤◌, List, take}
use Rattle.live_index.specs.Table.{pairs_of}
use Rattle.span_index.specs.Table.{times_of}
use Rattle.span_index.specs.declared.span.Span.{Span}
use Rattle.change_records.specs.Passes.{AreStopsOf, chunks_looks, is_searched}
use Rattle.change_records.specs.Search.{AreLawful, MeetsChanged, Searched, known}
use Rattle.change_records.proofs.reached.take_chunks.Given as goal

abbrev pub invariant-loop-chunk : goal.invariant-loop-chunk
invariant-loop-chunk g l = record {
  searched : AreLawful (g.B.Bases.superblock l.sides.bases.now).nodesize (times_of l.spans)
      → Searched (known (g.B.Bases.chunks l.sides.bases.now) (g.B.Bases.superblock l.sides.bases.now).nodesize (g.B.Bases.is_sum_free l.sides.bases.now)
      (pairs_of (g.B.Bases.table l.sides.bases.now)) l.sides.fresh.now l.sides.made.now)
      (times_of l.spans) (MeetsChanged l.chunks.list.now (is_searched l.chunks.others.now l.chunks.apart l.chunks.is_new) l.chunk-index) l.initial.refs l.refs;
  looks : (stops : List Span) → AreStopsOf (times_of l.spans) stops
      → l.steps ≤ l.initial.steps + chunks_looks (is_searched l.chunks.others.now l.chunks.apart l.chunks.is_new) stops (take l.chunk-index l.chunks.list.now);
}

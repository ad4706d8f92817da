use Rattle.std.proofs.Common.{◌+◌, ◌≤◌, List, take}
use Rattle.live_index.specs.Table.{pairs_of}
use Rattle.span_index.specs.Table.{times_of}
use Rattle.span_index.specs.declared.span.Span.{Span}
use Rattle.change_records.specs.Passes.{AreSpansOf, inodes_looks}
use Rattle.change_records.specs.Search.{AreAlone, AreLawful, Searched, ShowsChanged, known, new_flags}
use Rattle.change_records.proofs.reached.take_inodes.Given as goal

abbrev pub invariant-loop-inode : goal.invariant-loop-inode
invariant-loop-inode g l = record {
  searched : AreLawful (g.B.Bases.superblock l.sides.bases.now).nodesize (times_of l.spans) → AreAlone (times_of l.spans)
      → Searched (known (g.B.Bases.chunks l.sides.bases.now) (g.B.Bases.superblock l.sides.bases.now).nodesize (g.B.Bases.is_sum_free l.sides.bases.now)
      (pairs_of (g.B.Bases.table l.sides.bases.now)) l.sides.fresh.now l.sides.made.now)
      (times_of l.spans) (ShowsChanged l.inodes (g.B.Bases.is_sum_free l.sides.bases.now) (new_flags l.sides.made.now (g.B.Bases.is_sum_free l.sides.bases.now)) l.inode-index) l.initial.refs l.refs;
  looks : (all : List Span) → AreSpansOf (times_of l.spans) all
      → l.steps ≤ l.initial.steps + inodes_looks (g.B.Bases.is_sum_free l.sides.bases.now) (new_flags l.sides.made.now (g.B.Bases.is_sum_free l.sides.bases.now)) all (take l.inode-index l.inodes);
}

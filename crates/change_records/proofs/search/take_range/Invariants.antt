use Rattle.std.proofs.Common.{◌+◌, ◌*◌, ◌≤◌, List}
use Rattle.std.specs.List.{count_by}
use Rattle.live_index.specs.Table.{pairs_of}
use Rattle.span_index.specs.Table.{times_of}
use Rattle.span_index.specs.declared.span.Span.{Span}
use Rattle.change_records.specs.Passes.{AreStopsOf}
use Rattle.change_records.specs.Search.{AreLawful, Searched, known}
use Rattle.change_records.proofs.LookLaws.{is_passed}
use Rattle.change_records.proofs.SearchLaws.{BeginsBy, IsWalked}
use Rattle.change_records.proofs.search.take_range.Given as goal

abbrev pub invariant-spans : goal.invariant-spans
invariant-spans g l = record {
  searched : AreLawful (g.B.Bases.superblock l.sides.bases.now).nodesize (times_of l.spans)
      → Searched (known (g.B.Bases.chunks l.sides.bases.now) (g.B.Bases.superblock l.sides.bases.now).nodesize (g.B.Bases.is_sum_free l.sides.bases.now)
      (pairs_of (g.B.Bases.table l.sides.bases.now)) l.sides.fresh.now l.sides.made.now)
      (times_of l.spans) (IsWalked l.range.sort l.range.from l.range.until l.from l.after) l.initial.refs l.refs;
  looks : (stops : List Span) → AreStopsOf (times_of l.spans) stops
      → l.steps ≤ l.initial.steps + 2 * count_by (is_passed l.range.sort l.range.from l.range.until l.from l.after) stops;
  onward : l.range.from ≤ l.from;
  behind : BeginsBy l.from l.after;
}

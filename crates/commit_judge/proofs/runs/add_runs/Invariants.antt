use Rattle.std.proofs.Common.{◌+◌, ◌≤◌, length, take}
use Rattle.std.specs.List.{All, list_any}
use Rattle.span_index.specs.Sectors.{IsRun, has_sector}
use Rattle.span_index.specs.declared.span.Span.{Span}
use Rattle.commit_laws.specs.Sectors.{AreInside}
use Rattle.commit_laws.specs.Sound.{IsWhole}
use Rattle.commit_judge.proofs.span_tables.Runs.{AddOnly, StayInside}
use Rattle.commit_judge.proofs.runs.add_runs.Given as goal

-- the runs of the spans so far are added
abbrev pub invariant-loop-span : goal.invariant-loop-span
invariant-loop-span l = record {
  runs : All IsRun l.into.items;
  stay : StayInside l.initial.into.items l.into.items;
  inside : All IsWhole l.spans → AreInside l.into.items (take l.span-index l.spans);
  few : length l.into.items ≤ length l.initial.into.items + l.span-index;
  only : AddOnly l.initial.into.items l.into.items
      (λ address. list_any (λ (span : Span). has_sector span address) (take l.span-index l.spans));
}

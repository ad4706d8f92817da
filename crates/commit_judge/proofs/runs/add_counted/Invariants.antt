use Rattle.std.proofs.Common.{◌+◌, ◌≤◌, length, take}
use Rattle.std.specs.List.{All}
use Rattle.span_index.specs.Sectors.{IsRun, has_sector}
use Rattle.commit_laws.specs.Sectors.{CountedInside}
use Rattle.commit_laws.specs.Sound.{IsWhole}
use Rattle.commit_judge.specs.Moves.{any_counted}
use Rattle.commit_judge.proofs.span_tables.Runs.{AddOnly, StayInside}
use Rattle.commit_judge.proofs.runs.add_counted.Given as goal

-- the runs of the spans so far that count are added
abbrev pub invariant-loop-span : goal.invariant-loop-span
invariant-loop-span g l = record {
  runs : All IsRun l.into.items;
  stay : StayInside l.initial.into.items l.into.items;
  inside : All IsWhole l.spans → CountedInside (g.C.Ctx.context l.ctx) l.into.items (take l.span-index l.spans);
  few : length l.into.items ≤ length l.initial.into.items + l.span-index;
  only : AddOnly l.initial.into.items l.into.items
      (λ address. any_counted (g.C.Ctx.context l.ctx) (λ span. has_sector span address) (take l.span-index l.spans));
}

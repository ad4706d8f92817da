use Rattle.std.proofs.Common.{◌≡◌, ◌||◌, true, subst, take_all}
use Rattle.std.specs.List.{list_any}
use Rattle.span_index.specs.Sectors.{has_sector, is_inside}
use Rattle.span_index.specs.declared.span.Span.{Span}
use Rattle.commit_laws.specs.Sectors.{AreInside}
use Rattle.commit_judge.proofs.span_tables.Runs.{few_more, inside_more, only_more, runs_more, stay_more}
use Rattle.commit_judge.proofs.runs.add_runs.Goals as goal

pub loop-span-preserved : goal.loop-span-preserved
loop-span-preserved c = record {
  runs = runs_more c.loop-span.into.items c.push_some.new.into.items c.run_of.result c.loop-span.invariant.runs c.run_of.ensures.run
      c.in_ok-push_some.ensures;
  stay = stay_more c.args.into.now.items c.loop-span.into.items c.push_some.new.into.items c.run_of.result c.loop-span.invariant.stay
      c.in_ok-push_some.ensures;
  inside = inside_more c.args.spans.now c.loop-span.span-index _ c.loop-span.into.items c.push_some.new.into.items c.run_of.result
      c.loop-span-test.true c.loop-span.invariant.inside c.run_of.ensures.inside c.in_ok-push_some.ensures;
  few = few_more c.loop-span.into.items c.push_some.new.into.items c.run_of.result _ c.loop-span.span-index c.loop-span.invariant.few
      c.in_ok-push_some.ensures;
  only = only_more (λ address span. has_sector span address) c.args.spans.now c.loop-span.span-index _ c.args.into.now.items c.loop-span.into.items
      c.push_some.new.into.items c.run_of.result c.loop-span-test.true c.loop-span.invariant.only c.run_of.ensures.only c.in_ok-push_some.ensures;
}

pub returns-clause-only : goal.returns-clause-only
returns-clause-only c = λ address is whole.
    subst (λ l. (is_inside c.args.into.now.items address || list_any (λ (span : Span). has_sector span address) l) ≡ true)
    (take_all c.loop-span.span-index c.args.spans.now c.loop-span-test.false) (c.loop-span.invariant.only address is whole)

pub returns-clause-inside : goal.returns-clause-inside
returns-clause-inside c = λ whole.
    subst (λ l. AreInside c.loop-span.into.items l) (take_all c.loop-span.span-index c.args.spans.now c.loop-span-test.false)
    (c.loop-span.invariant.inside whole)

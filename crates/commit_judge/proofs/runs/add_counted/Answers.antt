use Rattle.std.proofs.Common.{◌≡◌, ◌&&◌, ◌||◌, true, subst, take_all}
use Rattle.span_index.specs.Sectors.{counts, has_sector, is_inside}
use Rattle.commit_laws.specs.Sectors.{CountedInside}
use Rattle.commit_judge.specs.Moves.{any_counted}
use Rattle.commit_judge.proofs.span_tables.Runs.{counted_more, few_more, only_more, runs_more, stay_more}
use Rattle.commit_judge.proofs.runs.add_counted.Goals as goal

pub loop-span-preserved : goal.loop-span-preserved
loop-span-preserved g c = record {
  runs = runs_more c.loop-span.into.items c.push_some.new.into.items c.counted_run.result c.loop-span.invariant.runs c.counted_run.ensures.run
      c.in_ok-push_some.ensures;
  stay = stay_more c.args.into.now.items c.loop-span.into.items c.push_some.new.into.items c.counted_run.result c.loop-span.invariant.stay
      c.in_ok-push_some.ensures;
  inside = counted_more (g.C.Ctx.context c.args.ctx.now) c.args.spans.now c.loop-span.span-index _ c.loop-span.into.items c.push_some.new.into.items
      c.counted_run.result c.loop-span-test.true c.loop-span.invariant.inside c.counted_run.ensures.inside c.in_ok-push_some.ensures;
  few = few_more c.loop-span.into.items c.push_some.new.into.items c.counted_run.result _ c.loop-span.span-index c.loop-span.invariant.few
      c.in_ok-push_some.ensures;
  only = only_more (λ address span. counts (g.C.Ctx.context c.args.ctx.now) span span.sort && has_sector span address) c.args.spans.now
      c.loop-span.span-index _ c.args.into.now.items c.loop-span.into.items c.push_some.new.into.items c.counted_run.result c.loop-span-test.true
      c.loop-span.invariant.only c.counted_run.ensures.only c.in_ok-push_some.ensures;
}

pub returns-clause-only : goal.returns-clause-only
returns-clause-only g c = λ address is whole.
    subst (λ l. (is_inside c.args.into.now.items address || any_counted (g.C.Ctx.context c.args.ctx.now) (λ span. has_sector span address) l) ≡ true)
    (take_all c.loop-span.span-index c.args.spans.now c.loop-span-test.false) (c.loop-span.invariant.only address is whole)

pub returns-clause-inside : goal.returns-clause-inside
returns-clause-inside g c = λ whole.
    subst (λ l. CountedInside (g.C.Ctx.context c.args.ctx.now) c.loop-span.into.items l) (take_all c.loop-span.span-index c.args.spans.now c.loop-span-test.false)
    (c.loop-span.invariant.inside whole)

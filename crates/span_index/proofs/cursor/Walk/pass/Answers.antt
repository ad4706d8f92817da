use Rattle.std.proofs.Common.{sym, subst}
use Rattle.span_index.specs.Sweep.{spans_of}
use Rattle.span_index.specs.Table.{times_of}
use Rattle.span_index.specs.Walks.{IsPassing}
use Rattle.span_index.proofs.ListLaws.{all_spans}
use Rattle.span_index.proofs.WalkLaws.{fewer_left, passing_on, sort_there}
use Rattle.span_index.proofs.cursor.Walk.pass.Goals as goal

-- src/cursor.rt:131:19
pub reaching-requires-clause-sort : goal.reaching-requires-clause-sort
reaching-requires-clause-sort g c =
    sort_there (g.C.Ctx.context c.args.ctx.now) (times_of c.args.index.now) (spans_of c.args.index.now) (all_spans c.args.index.now.spans c.args.index.now.own c.requires.1.1.0)
    g.low c.args.address c.requires.1.1.1.0 c.args.self c.loop-span.walk c.args.steps.now c.loop-span.steps c.step-head.new.steps c.loop-span.invariant c.in-Some.span c.in-Some.times (sym c.in-Some.ensures)
    c.step-head.result c.step-head.ensures.step

-- src/cursor.rt:127:9
pub loop-span-smaller : goal.loop-span-smaller
loop-span-smaller g c =
    fewer_left (g.C.Ctx.context c.args.ctx.now) (times_of c.args.index.now) (spans_of c.args.index.now) (all_spans c.args.index.now.spans c.args.index.now.own c.requires.1.1.0)
    g.low c.args.address c.requires.1.1.1.0 c.args.self c.loop-span.walk c.args.steps.now c.loop-span.steps c.step-head.new.steps c.loop-span.invariant c.in-Some.span c.in-Some.times (sym c.in-Some.ensures)
    c.step-head.result c.step-head.ensures.step

-- src/cursor.rt:127:9
pub loop-span-preserved : goal.loop-span-preserved
loop-span-preserved g c =
    subst
    (λ x. IsPassing (g.C.Ctx.context c.args.ctx.now) (times_of c.args.index.now) (spans_of c.args.index.now) g.low c.args.address c.args.self
    (record { sort = x; head = c.step-head.result; all = c.reaching.result.all; of_data = c.reaching.result.of_data }) c.args.steps.now c.step-head.new.steps)
    (sym c.reaching.ensures.sort)
    (passing_on (g.C.Ctx.context c.args.ctx.now) (times_of c.args.index.now) (spans_of c.args.index.now) (all_spans c.args.index.now.spans c.args.index.now.own c.requires.1.1.0)
    g.low c.args.address c.requires.1.1.1.0 c.args.self c.loop-span.walk c.args.steps.now c.loop-span.steps c.step-head.new.steps c.loop-span.invariant c.in-Some.span c.in-Some.times (sym c.in-Some.ensures)
    c.step-head.result c.step-head.ensures.step c.reaching.result.all c.reaching.result.of_data c.reaching.ensures.order c.reaching.ensures.data_order c.reaching.ensures.sums
    c.step-head.ensures.head c.step-head.ensures.begun c.step-head.ensures.looks)

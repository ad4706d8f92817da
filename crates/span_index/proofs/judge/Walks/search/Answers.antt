use Rattle.span_index.specs.Sweep.{spans_of}
use Rattle.span_index.specs.Table.{times_of}
use Rattle.span_index.proofs.JudgeLaws.{later_walks}
use Rattle.span_index.proofs.RunLaws.{found, search_on}
use Rattle.span_index.proofs.judge.Walks.search.Goals as goal

pub returns-then-is_broken-clause-first : goal.returns-then-is_broken-clause-first
returns-then-is_broken-clause-first g c =
    found (g.C.Ctx.context c.args.ctx.now) (times_of c.args.index.now) (spans_of c.args.index.now) g.low c.args.run.now c.loop-at.at c.args.self
    c.loop-at.walks c.pass-walks.result
    c.args.steps.now c.loop-at.steps c.pass-walks.new.steps c.loop-at.invariant c.loop-at-test.true c.pass-walks.ensures c.is_broken.result
    c.is_broken.ensures c.if-is_broken.true

pub returns-then-is_broken-clause-walked : goal.returns-then-is_broken-clause-walked
returns-then-is_broken-clause-walked g c =
    later_walks (g.C.Ctx.context c.args.ctx.now) (times_of c.args.index.now) (spans_of c.args.index.now) g.low c.loop-at.at c.args.run.now.until
    c.pass-walks.result c.loop-at.invariant.until c.pass-walks.ensures.walked

pub loop-at-preserved : goal.loop-at-preserved
loop-at-preserved g c =
    search_on (g.C.Ctx.context c.args.ctx.now) (times_of c.args.index.now) (spans_of c.args.index.now) g.low c.args.run.now c.loop-at.at c.args.self
    c.loop-at.walks c.pass-walks.result
    c.args.steps.now c.loop-at.steps c.pass-walks.new.steps c.loop-at.invariant c.loop-at-test.true c.pass-walks.ensures c.is_broken.result
    c.is_broken.ensures c.if-is_broken.false
    c.bound-at.result c.bound-at.ensures.after c.bound-at.ensures.most c.bound-at.ensures.sectors c.bound-at.ensures.still

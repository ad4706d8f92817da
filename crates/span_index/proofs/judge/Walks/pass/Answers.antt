use Rattle.span_index.specs.Sweep.{spans_of}
use Rattle.span_index.specs.Table.{times_of}
use Rattle.span_index.proofs.JudgeLaws.{all_pass}
use Rattle.span_index.proofs.judge.Walks.pass.Goals as goal

pub returns : goal.returns
returns g c =
    all_pass (g.C.Ctx.context c.args.ctx.now) (times_of c.args.index.now) (spans_of c.args.index.now) g.low c.args.address c.args.self
    (record { owned = c.pass.result; summed = c.pass-2.result; shown = c.pass-3.result })
    c.args.steps.now c.pass.new.steps c.pass-2.new.steps c.pass-3.new.steps c.args.address c.requires.1.1.1.1.1
    c.pass.ensures.passing c.pass-2.ensures.passing c.pass-3.ensures.passing
    (record { owned = c.pass.ensures.beyond; summed = c.pass-2.ensures.beyond; shown = c.pass-3.ensures.beyond })

use Rattle.span_index.specs.Sweep.{spans_of}
use Rattle.span_index.specs.Table.{times_of}
use Rattle.span_index.proofs.JudgeLaws.{all_begin}
use Rattle.span_index.proofs.judge.Walks.begin.Goals as goal

pub returns : goal.returns
returns g c = λ context low from up was.
    all_begin context (times_of c.args.index.now) (spans_of c.args.index.now) low c.args.address c.args.self
    (record { owned = c.begin.result; summed = c.begin-2.result; shown = c.begin-3.result })
    c.args.steps.now c.begin.new.steps c.begin-2.new.steps c.begin-3.new.steps from was
    (c.begin.ensures context low from up was.owned) (c.begin-2.ensures context low from up was.summed)
    (c.begin-3.ensures context low from up was.shown)

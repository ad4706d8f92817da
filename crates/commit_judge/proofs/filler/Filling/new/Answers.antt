use Rattle.ledger_index.specs.Ledger.{sums_of}
use Rattle.span_index.specs.Table.{times_of}
use Rattle.commit_judge.proofs.starts.Filling.{none_filled}
use Rattle.commit_judge.proofs.filler.Filling.new.Goals as goal

pub returns : goal.returns
returns g c =
    none_filled c.args.map.now c.args.nodesize (sums_of c.new.result) (times_of c.new-2.result) c.new-3.result
    c.looks-began.result c.args.steps.now c.new.ensures.sums c.new-2.ensures c.new-3.ensures.empty c.looks-began.ensures

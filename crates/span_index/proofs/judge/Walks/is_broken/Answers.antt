use Rattle.accounts.specs.Sums.{sum_in}
use Rattle.span_index.proofs.JudgeLaws.{broken_is}
use Rattle.span_index.proofs.judge.Walks.is_broken.Goals as goal

pub returns : goal.returns
returns c = λ sums reached.
    broken_is c.args.address c.args.self.now sums (sum_in c.totals.result) c.sector_keeps.result reached
    c.totals.ensures.owned c.totals.ensures.of_data c.totals.ensures.summed c.totals.ensures.shown c.sector_keeps.ensures

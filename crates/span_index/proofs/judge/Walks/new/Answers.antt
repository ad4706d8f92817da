use Rattle.span_index.proofs.JudgeLaws.{none_all}
use Rattle.span_index.proofs.judge.Walks.new.Goals as goal

pub returns-clause-walked : goal.returns-clause-walked
returns-clause-walked c = λ context table spans. record {
  owned = c.start.ensures.walked context table spans;
  summed = c.start-2.ensures.walked context table spans;
  shown = c.start-3.ensures.walked context table spans;
  owned_sort = c.start.ensures.sort;
  summed_sort = c.start-2.ensures.sort;
  shown_sort = c.start-3.ensures.sort;
}

pub returns-clause-passed : goal.returns-clause-passed
returns-clause-passed c = λ runs spans.
    none_all runs (record { owned = c.start.result; summed = c.start-2.result; shown = c.start-3.result }) spans
    c.start.ensures.passed c.start-2.ensures.passed c.start-3.ensures.passed

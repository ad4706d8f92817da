use Rattle.std.proofs.Common.{sym, ◌∙◌}
use Rattle.commit_judge.proofs.starts.Filling.{none_counted, span_counted}
use Rattle.commit_judge.proofs.filling.put_span.Goals as goal

pub returns-in-Some-clause-looks : goal.returns-in-Some-clause-looks
returns-in-Some-clause-looks g c = span_counted _ _ _ _ c.insert.ensures.looks (sym c.in-Some.is ∙ c.span_of.ensures c.requires)

pub returns-in-None-clause-looks : goal.returns-in-None-clause-looks
returns-in-None-clause-looks g c = none_counted _ _ (sym c.in-None.is ∙ c.span_of.ensures c.requires)

use Rattle.span_index.proofs.judge.Walks.pass.Given as goal

abbrev pub ghost-pass : goal.ghost-pass
ghost-pass g a = g.low

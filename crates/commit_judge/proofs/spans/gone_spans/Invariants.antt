use Rattle.commit_laws.specs.Paired.{gone_of}
use Rattle.commit_judge.proofs.span_tables.Items.{AreSpansOf}
use Rattle.commit_judge.proofs.spans.gone_spans.Given as goal

-- the spans of the items that the changes so far name are found
abbrev pub invariant-loop-change : goal.invariant-loop-change
invariant-loop-change l = AreSpansOf l.nodesize (gone_of l.items) l.changes l.change-index l.spans.items

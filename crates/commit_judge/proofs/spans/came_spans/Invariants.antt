use Rattle.commit_laws.specs.Paired.{came_of}
use Rattle.commit_judge.proofs.span_tables.Items.{AreSpansOf}
use Rattle.commit_judge.proofs.spans.came_spans.Given as goal

-- the spans of the items that the changes so far name are found
abbrev pub invariant-loop-change : goal.invariant-loop-change
invariant-loop-change l = AreSpansOf l.nodesize (came_of l.items) l.changes l.change-index l.spans.items

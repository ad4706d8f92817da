use Rattle.std.proofs.Common.{◌∙◌, sym}
use Rattle.span_index.specs.Sweep.{spans_of}
use Rattle.span_index.specs.Table.{times_of}
use Rattle.span_index.proofs.ListLaws.{all_spans}
use Rattle.span_index.proofs.WalkLaws.{begin_kept, begin_on}
use Rattle.span_index.proofs.cursor.Walk.begin.Goals as goal

-- src/cursor.rt:121:5
pub returns-then-is_settled : goal.returns-then-is_settled
returns-then-is_settled g c = λ context low from up walked.
    begin_kept context (times_of c.args.index.now) (spans_of c.args.index.now) c.args.address c.args.self low from up walked c.args.steps.now (sym c.is_settled.ensures ∙ c.if-is_settled.true)

-- src/cursor.rt:121:5
pub returns-else-is_settled : goal.returns-else-is_settled
returns-else-is_settled g c = λ context low from up walked.
    begin_on context (times_of c.args.index.now) (spans_of c.args.index.now) c.args.address c.args.self low from up walked c.args.steps.now
    (all_spans c.args.index.now.spans c.args.index.now.own c.requires) (sym c.is_settled.ensures ∙ c.if-is_settled.false) c.step.result c.step.ensures.step c.step.ensures.head c.step.ensures.begun
    c.step.new.steps c.step.ensures.looks

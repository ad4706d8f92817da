use Rattle.std.specs.Prelude.{option_map}
use Rattle.commit_laws.specs.Paired.{came_of}
use Rattle.commit_judge.proofs.span_tables.Items.{came_done, spans_more}
use Rattle.commit_judge.proofs.spans.came_spans.Goals as goal

pub loop-change-preserved : goal.loop-change-preserved
loop-change-preserved c =
    spans_more c.args.nodesize (came_of c.args.items.now) c.args.changes.now c.loop-change.change-index _ c.loop-change.spans.items
    c.push_some.new.into.items (option_map (λ a. a.now) c.came_item.result) c.item_span.result c.loop-change-test.true c.loop-change.invariant
    c.came_item.ensures c.item_span.ensures.some c.item_span.ensures.none c.in_ok-push_some.ensures

pub returns : goal.returns
returns c = λ sup blocks sound.
    came_done c.args.nodesize c.args.items.now c.args.changes.now c.loop-change.change-index c.loop-change.spans.items sup blocks
    c.loop-change-test.false c.loop-change.invariant sound

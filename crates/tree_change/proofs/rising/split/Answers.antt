use Rattle.std.proofs.Common.{◌++◌, not, ap, ◌∙◌}
use Rattle.std.specs.Prelude.{Some, None, if◌then◌else◌}
use Rattle.std.specs.List.{filter_map}
use Rattle.std.proofs.lemmas.List.{take_all}
use Rattle.live_index.specs.declared.live.Live.{Live}
use Rattle.touched_blocks.specs.Marks.{marked_by}
use Rattle.tree_change.specs.Rising.{is_marked}
use Rattle.tree_change.proofs.Leaving.{some_more}
use Rattle.tree_change.proofs.RisingLoops.{by_other, by_test, filtered}
use Rattle.tree_change.proofs.rising.split.Goals as goal

-- src/rising.rt:73:5
pub loop-live-preserved : goal.loop-live-preserved
loop-live-preserved c = record {
  marked = some_more (λ (live : Live). if is_marked (marked_by c.args.marks.now) live then Some live else None)
      c.args.into.now.items c.loop-live.into.items c.push_some.new.into.items _ c.args.lives.now c.loop-live.live-index _ c.loop-live-test.true
      c.loop-live.invariant.marked (by_test _ _ _ _ c.live_if.ensures c.has-marked.ensures) c.in_ok-push_some.ensures;
  others = some_more (λ (live : Live). if not (is_marked (marked_by c.args.marks.now) live) then Some live else None)
      c.args.rest.now.items c.loop-live.rest.items c.push_some-in-loop-live.new.into.items _ c.args.lives.now c.loop-live.live-index _ c.loop-live-test.true
      c.loop-live.invariant.others (by_other _ _ _ _ c.live_if-in-loop-live.ensures c.has-marked.ensures) c.in_ok-push_some-2.ensures;
}

pub returns-clause-marked : goal.returns-clause-marked
returns-clause-marked c =
    c.loop-live.invariant.marked
    ∙ ap (λ l. c.args.into.now.items ++ l)
    (ap (filter_map (λ (live : Live). if is_marked (marked_by c.args.marks.now) live then Some live else None))
    (take_all c.loop-live.live-index c.args.lives.now c.loop-live-test.false)
    ∙ filtered (is_marked (marked_by c.args.marks.now)) c.args.lives.now)

pub returns-clause-others : goal.returns-clause-others
returns-clause-others c =
    c.loop-live.invariant.others
    ∙ ap (λ l. c.args.rest.now.items ++ l)
    (ap (filter_map (λ (live : Live). if not (is_marked (marked_by c.args.marks.now) live) then Some live else None))
    (take_all c.loop-live.live-index c.args.lives.now c.loop-live-test.false)
    ∙ filtered (λ live. not (is_marked (marked_by c.args.marks.now) live)) c.args.lives.now)

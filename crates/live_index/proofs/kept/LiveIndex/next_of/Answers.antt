use Rattle.std.proofs.Common.{◌≡◌, ◌==◌, false, arith, subst}
use Rattle.std.proofs.lemmas.Grind.{common_steps}
use Rattle.std.specs.declared.ops.Bound.TheVariants.{Unbounded}
use Rattle.std.specs.BTreeMap.Range.{IsRangeOf}
use Rattle.live_index.specs.InOrder.{start_of}
use Rattle.live_index.specs.Orders.{by_tree}
use Rattle.live_index.proofs.IndexLaws.{next_here, next_other, no_next}
use Rattle.live_index.proofs.kept.LiveIndex.next_of.Goals as goal

-- src/index.rt:101:29
pub returns-in_err-place-clause-value : goal.returns-in_err-place-clause-value
returns-in_err-place-clause-value g c =
    let range : IsRangeOf by_tree (start_of c.args.tree c.args.after) Unbounded c.args.self.now.pairs c.range.result =
    subst (λ start. IsRangeOf by_tree start Unbounded c.args.self.now.pairs c.range.result) c.start_of-start.ensures (c.range.ensures.in_range tt) in
    rw c.from_residual.ensures (no_next c.args.self.now.pairs c.args.tree c.args.after c.range.result range c.in_err-place.ensures.steps.0)

-- src/index.rt:95:5
pub returns-then-place-tree-clause-value : goal.returns-then-place-tree-clause-value
returns-then-place-tree-clause-value g c =
    let range : IsRangeOf by_tree (start_of c.args.tree c.args.after) Unbounded c.args.self.now.pairs c.range.result =
    subst (λ start. IsRangeOf by_tree start Unbounded c.args.self.now.pairs c.range.result) c.start_of-start.ensures (c.range.ensures.in_range tt) in
    next_here c.args.self.now.pairs c.args.tree c.args.after c.range.result c.args.self.now.alike.own range (c.in_ok-place.place.now, c.in_ok-place.live.now) c.next.new.self c.in_ok-place.ensures.steps
    (omega arith)

-- src/index.rt:95:5
pub returns-else-place-tree-clause-value : goal.returns-else-place-tree-clause-value
returns-else-place-tree-clause-value g c =
    let range : IsRangeOf by_tree (start_of c.args.tree c.args.after) Unbounded c.args.self.now.pairs c.range.result =
    subst (λ start. IsRangeOf by_tree start Unbounded c.args.self.now.pairs c.range.result) c.start_of-start.ensures (c.range.ensures.in_range tt) in
    let apart : (c.in_ok-place.place.now.tree == c.args.tree) ≡ false = grind (arith, common_steps) in
    next_other c.args.self.now.pairs c.args.tree c.args.after c.range.result range (c.in_ok-place.place.now, c.in_ok-place.live.now) c.next.new.self c.in_ok-place.ensures.steps apart

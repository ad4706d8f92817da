use Rattle.std.proofs.Common.{arith, inl, inr, ap, sym, subst, ◌∙◌}
use Rattle.touched_blocks.specs.Leaving.{IsPassed}
use Rattle.touched_blocks.proofs.Gaps.{gap_passed}
use Rattle.touched_blocks.proofs.leaving.add_gap.Goals as goal
use Rattle.touched_blocks.proofs.leaving.add_gap.Goals.{then-at-both+in_ok-push, else-at-both}

pub returns : goal.returns
returns c =
    subst (λ o. IsPassed c.args.nodesize c.args.chunk.now c.args.other.now o c.behind.result c.args.into.now.items c.if-at-both.into.items) (sym c.in-Some.is)
    (gap_passed c.args.nodesize c.args.chunk.now c.args.other.now c.in-Some.at c.in-Some-both_held.both c.behind.result c.args.into.now.items c.if-at-both.into.items
    c.in-Some-both_held.ensures.all c.in-Some-both_held.ensures.only c.in-Some-both_held.ensures.low c.in-Some-both_held.ensures.room (omega arith)
    c.in-Some-both_held.ensures.meets c.behind.ensures.value c.behind.ensures.on
    (elim c.if-at-both.branch [
      | then-at-both+in_ok-push w ↦ inl (w.if-at-both.true, ap (λ v. v.items) w.into-is ∙ w.in_ok-push.ensures)
      | else-at-both w ↦ inr (w.if-at-both.false, ap (λ v. v.items) w.into-is)
    ]))

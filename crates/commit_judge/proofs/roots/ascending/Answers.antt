use Rattle.std.proofs.Common.{◌+◌, subst, sym}
use Rattle.commit_judge.proofs.plans.Roots.{AreKept, kept_less, kept_more}
use Rattle.commit_judge.proofs.roots.ascending.Goals as goal
use Rattle.commit_judge.proofs.roots.ascending.Goals.{then-stands_behind+in_ok-put, else-stands_behind}

pub loop-root-preserved : goal.loop-root-preserved
loop-root-preserved c =
    let so : AreKept c.args.roots.now c.loop-root.list.items c.loop-root.root-index = (c.loop-root.invariant.ascend, c.loop-root.invariant.same) in
    let kept : AreKept c.args.roots.now c.if-stands_behind.list.items (c.loop-root.root-index + 1) = elim c.if-stands_behind.branch [
      | then-stands_behind+in_ok-put w ↦
          subst (λ v. AreKept c.args.roots.now v.items (c.loop-root.root-index + 1)) (sym w.list-is)
          (kept_more c.args.roots.now c.loop-root.list.items c.deref.result.now w.put.new.list.items c.loop-root.root-index _ c.stands_behind.result
          c.loop-root-test.true c.deref.ensures.value c.stands_behind.ensures w.if-stands_behind.true so w.in_ok-put.ensures)
      | else-stands_behind w ↦
          subst (λ v. AreKept c.args.roots.now v.items (c.loop-root.root-index + 1)) (sym w.list-is)
          (kept_less c.args.roots.now c.loop-root.list.items c.deref.result.now c.loop-root.root-index _ c.stands_behind.result
          c.loop-root-test.true c.deref.ensures.value c.stands_behind.ensures w.if-stands_behind.false so)
    ] in
    record { ascend = kept.0; same = kept.1 }

use Rattle.std.proofs.Common.{◌≡◌, ◌-◌, length, reverse, take, slice_get, Some, false, ap, sym, ◌∙◌}
use Rattle.tree_laws.specs.LivePairs.{greater_key}
use Rattle.live_maker.specs.Opened.{closes, last_below}
use Rattle.live_maker.proofs.Closing.{Done, done_closed, done_live, done_none, hand_more, left_less}
use Rattle.live_maker.proofs.lives.closed.Goals as goal
use Rattle.live_maker.proofs.lives.closed.Goals.{in-Some+then-closes, in_default}

pub loop-one-preserved : goal.loop-one-preserved
loop-one-preserved c =
    let top : slice_get c.loop-one.behind.items (length c.loop-one.behind.items - 1) ≡ Some c.in-Some.one =
    ap (λ l. slice_get l (length l - 1)) (sym c.deref.ensures.value) ∙ sym c.last.ensures.value ∙ sym c.copied.ensures ∙ c.in-Some.is in
    let here : closes c.args.live c.in-Some.one ≡ false = sym c.closes.ensures ∙ c.if-closes.false in
    let rest : c.pop.new.self.items ≡ take (length c.loop-one.behind.items - 1) c.loop-one.behind.items =
    c.pop.ensures.rest ∙ ap (λ n. take (n - 1) c.loop-one.behind.items) (sym c.deref.ensures.len ∙ ap length c.deref.ensures.value) in
    record {
      last = ap (greater_key (last_below c.args.live (reverse c.pop.new.self.items))) c.greater-last.ensures
          ∙ hand_more c.args.live c.in-Some.one c.loop-one.behind.items c.pop.new.self.items c.loop-one.last top here rest
          ∙ c.loop-one.invariant.last;
      left = left_less c.args.live c.in-Some.one c.loop-one.behind.items c.pop.new.self.items top here rest ∙ c.loop-one.invariant.left;
    }

done : (c : goal.After-result-1) → Done c.args.live (reverse c.loop-one.behind.items)
done c =
    let top : slice_get c.loop-one.behind.items (length c.loop-one.behind.items - 1) ≡ c.copied.result =
    ap (λ l. slice_get l (length l - 1)) (sym c.deref.ensures.value) ∙ sym c.last.ensures.value ∙ sym c.copied.ensures in
    elim c.match-copied.branch [
      | in-Some+then-closes w ↦ done_closed c.args.live w.in-Some.one c.loop-one.behind.items (top ∙ w.in-Some.is) (sym w.closes.ensures ∙ w.if-closes.true)
      | in_default w ↦ done_none c.args.live c.loop-one.behind.items (top ∙ w.in_default.is)
    ]

pub returns-clause-live : goal.returns-clause-live
returns-clause-live c =
    done_live c.args.live (reverse c.loop-one.behind.items) c.loop-one.last (last_below c.args.live (reverse c.args.behind.now.items)) (done c) c.loop-one.invariant.last

pub returns-clause-left : goal.returns-clause-left
returns-clause-left c = let d = done c in sym d.left ∙ c.loop-one.invariant.left

use Rattle.std.proofs.Common.{◌≡◌, [], ap, arith, length, subst, sym, ◌∙◌}
use Rattle.std.specs.BTreeMap.{IsOrdered}
use Rattle.accounts.specs.Order.{account_cmp}
use Rattle.ledger_maps.specs.Entries.{by_account}
use Rattle.ledger_index.specs.Judged.{IsLeastBut, is_later}
use Rattle.ledger_index.specs.Looks.{counted_times}
use Rattle.ledger_index.specs.Singles.{sums_of}
use Rattle.ledger_index.proofs.JudgedLaws.{Found, found_sorted, whole_judged, whole_kept}
use Rattle.ledger_index.proofs.LooksLaws.{look_end, look_one}
use Rattle.ledger_index.proofs.singles.Singles.least_whole.Goals as goal

pub loop-account-init : goal.loop-account-init
loop-account-init g c =
    let self = c.args.self.now in
    let e : c.into_iter-account-iterator.result ≡ self.whole.entries.entries =
    c.into_iter-account-iterator.ensures.into_iter_gives.0 ∙ ap (λ m. m.entries) c.entries-account-items.ensures in
    record {
      least = λ is. subst (λ es. IsLeastBut (sums_of self) (is_later [] [] es) c.args.first) (sym e) is;
      found = subst (Found (by_account self.whole.entries)) (sym e)
          (found_sorted self.whole.entries.entries
          (subst (λ m. IsOrdered account_cmp m) c.entries-account-items.ensures c.into_iter-account-iterator.ensures.into_iter_gives.5));
      counts = ap (λ es. counted_times (length es) c.args.steps.now) e;
      looks = omega (arith, ap length e);
    }

-- the entry breaks its account
pub loop-account-preserved-then-breaks : goal.loop-account-preserved-then-breaks
loop-account-preserved-then-breaks g c =
    let self = c.args.self.now in
    let e = c.in-Some.ensures.steps in
    record {
      least = λ is. whole_judged self c.next.new.self c.in-Some.account.now c.in-Some.kept.now c.loop-account.least
          (subst (λ es. IsLeastBut (sums_of self) (is_later [] [] es) c.loop-account.least) e (c.loop-account.invariant.least is))
          c.in_ok-copy_of.field-0 c.in_ok-copy_of.ensures c.lesser-least.result c.lesser-least.ensures;
      found = (subst (Found (by_account self.whole.entries)) e c.loop-account.invariant.found).1;
      counts = look_one (length c.next.new.self) (length c.loop-account.account-iterator) c.loop-account.steps c.look.new.self
          (let more = ap length e in omega (arith, more)) c.look.ensures ∙ c.loop-account.invariant.counts;
      looks = omega (arith, c.look.ensures, c.loop-account.invariant.looks, ap length e);
    }

-- it breaks none
pub loop-account-preserved : goal.loop-account-preserved
loop-account-preserved g c =
    let self = c.args.self.now in
    let e = c.in-Some.ensures.steps in
    let found = subst (Found (by_account self.whole.entries)) e c.loop-account.invariant.found in
    record {
      least = λ is. whole_kept self c.next.new.self c.in-Some.account.now c.in-Some.kept.now c.loop-account.least
          (subst (λ es. IsLeastBut (sums_of self) (is_later [] [] es) c.loop-account.least) e (c.loop-account.invariant.least is))
          found.0 (sym c.breaks.ensures ∙ c.if-breaks.false);
      found = found.1;
      counts = look_one (length c.next.new.self) (length c.loop-account.account-iterator) c.loop-account.steps c.look.new.self
          (let more = ap length e in omega (arith, more)) c.look.ensures ∙ c.loop-account.invariant.counts;
      looks = omega (arith, c.look.ensures, c.loop-account.invariant.looks, ap length e);
    }

pub returns-clause-least : goal.returns-clause-least
returns-clause-least g c =
    let self = c.args.self.now in
    λ is. subst (λ es. IsLeastBut (sums_of self) (is_later [] [] es) c.loop-account.least) c.in-None.ensures.steps.0 (c.loop-account.invariant.least is)

pub returns-clause-counts : goal.returns-clause-counts
returns-clause-counts g c = look_end _ c.loop-account.steps _ (ap length c.in-None.ensures.steps.0) c.loop-account.invariant.counts

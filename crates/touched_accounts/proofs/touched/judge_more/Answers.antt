use Rattle.std.proofs.Common.{◌+◌, ◌++◌, take, sym, ◌∙◌, subst, arith}
use Rattle.std.specs.Option.{option_copied}
use Rattle.std.proofs.lemmas.List.{take_all}
use Rattle.ledger_index.specs.Ledger.{sums_of}
use Rattle.touched_accounts.specs.Least.{IsLeastTouched}
use Rattle.touched_accounts.proofs.LeastTouched.{before_next, behind_next, unbroken_next}
use Rattle.touched_accounts.proofs.touched.judge_more.Goals as goal
use Rattle.touched_accounts.proofs.touched.judge_more.Goals.{then-stands_before+then-breaks, else-stands_before, else-stands_before-via-then-stands_before+else-breaks, else-stands_before-via-else-stands_before}

pub loop-posting-preserved : goal.loop-posting-preserved
loop-posting-preserved g c =
    let sums = sums_of c.args.ledger.now in
    let ps = c.as_slice-posting-items.result.now in
    let i = c.loop-posting.posting-index in
    let p = c.posting-item.result in
    let so = c.loop-posting.invariant.least in
    elim c.if-stands_before.branch [
      | then-stands_before+then-breaks w ↦ record {
        least = λ earlier first.
            subst (λ o. IsLeastTouched sums (earlier ++ take (i + 1) ps) (option_copied o)) (sym w.found-is)
            (before_next sums earlier ps i p p (option_copied c.loop-posting.found) c.loop-posting-test.true c.posting-item.is
            (sym c.stands_before.ensures ∙ w.if-stands_before.true)
            (sym w.breaks.ensures.broken ∙ w.if-breaks.true) (so earlier first));
        looks = omega (arith, w.breaks.ensures.looks, w.steps-is, c.loop-posting.invariant.looks);
      }
      | else-stands_before w ↦ elim w.else-stands_before.branch [
        | else-stands_before-via-then-stands_before+else-breaks v ↦ record {
          least = λ earlier first.
              subst (λ o. IsLeastTouched sums (earlier ++ take (i + 1) ps) (option_copied o)) (sym w.found-is)
              (unbroken_next sums earlier ps i p p (option_copied c.loop-posting.found) c.loop-posting-test.true c.posting-item.is
              (sym v.breaks.ensures.broken ∙ v.if-breaks.false) (so earlier first));
          looks = omega (arith, v.breaks.ensures.looks, v.steps-is, w.steps-is, c.loop-posting.invariant.looks);
        }
        | else-stands_before-via-else-stands_before v ↦ record {
          least = λ earlier first.
              subst (λ o. IsLeastTouched sums (earlier ++ take (i + 1) ps) (option_copied o)) (sym w.found-is)
              (behind_next sums earlier ps i p p (option_copied c.loop-posting.found) c.loop-posting-test.true c.posting-item.is
              (sym c.stands_before.ensures ∙ v.if-stands_before.false) (so earlier first));
          looks = omega (arith, v.steps-is, w.steps-is, c.loop-posting.invariant.looks);
        }
      ]
    ]

pub returns-clause-least : goal.returns-clause-least
returns-clause-least g c = λ earlier first.
    subst (λ l. IsLeastTouched (sums_of c.args.ledger.now) (earlier ++ l) (option_copied c.loop-posting.found))
    (take_all c.loop-posting.posting-index c.as_slice-posting-items.result.now c.loop-posting-test.false ∙ c.as_slice-posting-items.ensures)
    (c.loop-posting.invariant.least earlier first)

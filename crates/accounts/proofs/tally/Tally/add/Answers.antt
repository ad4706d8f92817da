use Rattle.std.proofs.Common.{◌≡◌, ◌<◌, true, arith, ap, subst, sym, ◌∙◌}
use Rattle.std.specs.Prelude.{Some, None}
use Rattle.std.specs.BTreeMap.{get}
use Rattle.std.proofs.lemmas.Grind.{common_steps}
use Rattle.accounts.specs.Order.{account_cmp}
use Rattle.accounts.specs.Sums.{sum_in}
use Rattle.accounts.specs.Tally.{sums_at}
use Rattle.accounts.proofs.Entries.{above_kept, added_put, added_removed, zero_kept}
use Rattle.accounts.proofs.tally.Tally.add.Goals as goal
use Rattle.accounts.proofs.tally.Tally.add.Goals.{then-field-gt8-via-then-field-gt8, then-field-gt8-via-else-field-gt8+then-posting-eq0}
use Rattle.accounts.specs.Kinds.{balances}

-- src/tally.rt:53:13
pub returns-then-field-gt8 : goal.returns-then-field-gt8
returns-then-field-gt8 c =
    elim c.then-field-gt8.branch [
      | then-field-gt8-via-then-field-gt8 w ↦ above_kept (get account_cmp c.args.self.now.entries) c.args.posting (subst (λ k. 8 < k) c.from-field.ensures w.if-field-gt8.true)
      | then-field-gt8-via-else-field-gt8+then-posting-eq0 w ↦ zero_kept (get account_cmp c.args.self.now.entries) c.args.posting w.if-posting-eq0.true
    ]

-- src/tally.rt:50:5
pub returns-then-is_settled : goal.returns-then-is_settled
returns-then-is_settled c =
    let small : c.from-field.result < 9 = omega (c.if-field-gt8.false, arith) in
    let had : get account_cmp c.args.self.now.entries c.args.posting.account ≡ Some c.get_mut-totals.result.now = grind (arith, common_steps) in
    let balanced : balances c.args.posting.account.kind ≡ true = grind (arith, common_steps) in
    let equal : sum_in c.add.new.self 0 ≡ sum_in c.add.new.self 1 = grind (arith, common_steps) in
    added_removed (get account_cmp c.args.self.now.entries) _ c.args.posting c.from-field.result c.get_mut-totals.result.now c.add.new.self
    c.from-field.ensures small (λ n. ap (λ o. sums_at o n) (sym had)) c.in_ok-add-in-Ok-Occupied.ensures balanced equal (λ q. grind (arith, common_steps, c.in-Ok-Occupied.ensures.removal.0.0 q))

-- src/tally.rt:50:5
pub returns-else-is_settled : goal.returns-else-is_settled
returns-else-is_settled c =
    let small : c.from-field.result < 9 = omega (c.if-field-gt8.false, arith) in
    let had : get account_cmp c.args.self.now.entries c.args.posting.account ≡ Some c.get_mut-totals.result.now = grind (arith, common_steps) in
    added_put (get account_cmp c.args.self.now.entries) _ c.args.posting c.from-field.result c.get_mut-totals.result.now c.add.new.self
    c.from-field.ensures small (λ n. ap (λ o. sums_at o n) (sym had)) c.in_ok-add-in-Ok-Occupied.ensures (λ q. grind (arith, common_steps, (c.in-Ok-Occupied.ensures.update.0 c.add.new.self).0 q))

-- src/tally.rt:50:5
pub returns-in-Ok-Vacant : goal.returns-in-Ok-Vacant
returns-in-Ok-Vacant c =
    let small : c.from-field.result < 9 = omega (c.if-field-gt8.false, arith) in
    let had : get account_cmp c.args.self.now.entries c.args.posting.account ≡ None = grind (arith, common_steps) in
    added_put (get account_cmp c.args.self.now.entries) _ c.args.posting c.from-field.result c.zero-totals.result c.add-in-Ok-Vacant.new.self
    c.from-field.ensures small (λ n. c.zero-totals.ensures n ∙ ap (λ o. sums_at o n) (sym had)) c.in_ok-add-in-Ok-Vacant.ensures (λ q. grind (arith, common_steps, (c.in-Ok-Vacant.ensures.update.0 c.add-in-Ok-Vacant.new.self).0 q))
